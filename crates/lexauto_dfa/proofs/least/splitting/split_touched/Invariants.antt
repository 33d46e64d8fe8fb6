use Rattle.std.proofs.Common.{◌≡◌, ◌↔◌, ℕ, ◌<◌, Bool, true}
use Rattle.lexauto_dfa.specs.Arranged.{Arranged, IsMarked, IsTouched, count, states}
use Rattle.lexauto_dfa.specs.Going.{Counts, Going}
use Rattle.lexauto_dfa.specs.Sources.{HasFrom}
use Rattle.lexauto_dfa.proofs.least.splitting.split_touched.Given as goal

abbrev pub invariant-loop-number : goal.invariant-loop-number
invariant-loop-number l = record {
  arranged : Arranged l.blocks;
  counts : Counts l.fn.blocks l.fn.waiting.items l.blocks l.waiting.items;
  left : (c : ℕ) → c < count l.blocks → IsTouched l.blocks c → HasFrom l.touched l.number-index c;
  going : (m : ℕ → Bool) → ((x : ℕ) → x < states l.fn.blocks → IsMarked l.fn.blocks x ↔ (m x ≡ true)) → Going l.fn.blocks l.fn.waiting.items l.blocks l.waiting.items m;
}
