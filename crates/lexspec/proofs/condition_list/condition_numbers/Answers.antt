use Rattle.std.proofs.Common.{ap, sym, Some, ◌∙◌, true, length}
use Rattle.lex_semantics.proofs.Listed.{listed_is, range_is}
use Rattle.lexspec.specs.SubjectViews.{conditions_of}
use Rattle.lexspec_actions.specs.Names.{number_from, names_of}
use Rattle.lexspec.specs.RuleItems.{numbers_of}
use Rattle.lexspec.proofs.ListedLaws.{every_flag}
use Rattle.lexspec.proofs.condition_list.condition_numbers.Goals as goal

pub returns-in_ok-numbers-in-Every-clause-found : goal.returns-in_ok-numbers-in-Every-clause-found
returns-in_ok-numbers-in-Every-clause-found c =
    ap (λ a. numbers_of (number_from 0 (names_of c.args.conditions.now)) (length c.args.conditions.now) (conditions_of a)) c.in-Every.is
    ∙ ap (λ z. Some (Some z)) (range_is 0 (length c.args.conditions.now) ∙ sym (listed_is (λ k. true) 0 (length c.args.conditions.now)) ∙ sym (c.in_ok-numbers-in-Every.ensures (λ k. true) every_flag))
