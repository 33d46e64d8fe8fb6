use Rattle.std.proofs.Common.{◌≡◌, ℕ, ◌<◌, [], false, get_or, map}
use Rattle.lex_semantics.specs.ByteSets.{same_bytes}
use Rattle.lexlook_calls.proofs.header.first_called.Given as goal

-- none of those so far is called so
abbrev pub invariant-loop-other : goal.invariant-loop-other
invariant-loop-other l = (k : ℕ) → k < l.other → same_bytes (get_or (map (λ n. n.items) l.names) l.rule []) (get_or (map (λ n. n.items) l.names) k []) ≡ false
