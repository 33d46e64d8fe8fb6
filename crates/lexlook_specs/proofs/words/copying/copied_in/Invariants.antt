use Rattle.std.proofs.Common.{ℕ, ◌<◌}
use Rattle.lexlook_specs.specs.Copied.{CopiesByte}
use Rattle.lexlook_specs.specs.Matches.{matches_in}
use Rattle.lexlook_specs.proofs.words.copying.copied_in.Given as goal

abbrev pub invariant-loop-code : goal.invariant-loop-code
invariant-loop-code l = (d : ℕ) → d < l.code → CopiesByte (matches_in l.dfa.parts l.rejects) l.condition d → ⊥
