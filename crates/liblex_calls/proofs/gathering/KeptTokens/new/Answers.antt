use Rattle.std.proofs.Common.{[], ◌++◌, refl, sym, ap, ◌∙◌, arith}
use Rattle.std.proofs.lemmas.List.{take_all}
use Rattle.liblex_calls.specs.Brief.{long_tokens}
use Rattle.liblex_calls.proofs.gathering.KeptTokens.new.Goals as goal

pub returns-clause-kept : goal.returns-clause-kept
returns-clause-kept c = record { first = ap (λ l. long_tokens 0 l ++ c.new-2.result.items) c.new.ensures.items ∙ c.new-2.ensures.items ∙ sym (take_all c.args.room [] (omega arith)); count_is = refl }
