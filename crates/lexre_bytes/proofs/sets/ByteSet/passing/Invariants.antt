use Rattle.std.proofs.Common.{◌≡◌, ℕ, ◌+◌, ◌<◌, Bool}
use Rattle.lex_semantics.specs.ByteSets.{set_below}
use Rattle.lexre_bytes.proofs.sets.ByteSet.passing.Given as goal

-- each half has what passes of the bytes so far
abbrev pub invariant-loop-byte : goal.invariant-loop-byte
invariant-loop-byte g l = (goal.F-IsAlwaysCallable g l.test) × ((p : ℕ → Bool) → ((b : ℕ) (r : Bool) → b < 256 → goal.F-post g l.test b r → r ≡ p b) → (l.low ≡ set_below l.byte p) × (l.high ≡ set_below l.byte (λ b. p (b + 128))))
