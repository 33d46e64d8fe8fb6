use Rattle.std.proofs.Common.{◌≡◌, ℕ, ◌<◌, false}
use Rattle.std.specs.Prelude.{slice_index_or}
use Rattle.lex_semantics.specs.ByteSets.{has, empty_set}
use Rattle.lexauto.proofs.changing.united.Given as goal

abbrev pub invariant-loop-set : goal.invariant-loop-set
invariant-loop-set l = record {
  told : (q b : ℕ) → q < l.set-index → b < 256 → has l.all b ≡ false → has (slice_index_or l.sets q empty_set) b ≡ false;
}
