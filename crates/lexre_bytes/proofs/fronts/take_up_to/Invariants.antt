use Rattle.std.proofs.Common.{◌≡◌, ℕ, ◌<◌, ◌≤◌, Bool, true, get_or}
use Rattle.lexre_bytes.proofs.fronts.take_up_to.Given as goal

-- so far there is room, and each byte passes
abbrev pub invariant-loop-i : goal.invariant-loop-i
invariant-loop-i g l = (goal.F-IsAlwaysCallable g l.test) × (l.i ≤ l.limit)
    × ((p : ℕ → Bool) → ((b : ℕ) (r : Bool) → b < 256 → goal.F-post g l.test b r → r ≡ p b) → (k : ℕ) → k < l.i → p (get_or l.text k 0) ≡ true)
