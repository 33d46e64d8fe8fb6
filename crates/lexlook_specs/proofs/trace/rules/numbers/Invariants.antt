use Rattle.std.proofs.Common.{◌≡◌, ◌++◌, ◌-◌, true}
use Rattle.lex_semantics.specs.Text.{listed}
use Rattle.lexlook_specs.proofs.trace.rules.numbers.Given as goal

abbrev pub invariant-loop-number : goal.invariant-loop-number
invariant-loop-number l = l.numbers.items ++ listed (λ c. true) l.number (l.count - l.number) ≡ listed (λ c. true) 0 l.count
