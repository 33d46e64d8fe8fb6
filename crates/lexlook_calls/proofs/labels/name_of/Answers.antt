use Rattle.std.proofs.Common.{◌<◌, ◌∙◌, List, [], length, map, ap, sym, arith}
use Rattle.std.specs.Prelude.{slice_index_or}
use Rattle.std.proofs.lemmas.List.{get_or-map, length-map}
use Rattle.lex_semantics.specs.Spec.{Condition}
use Rattle.lexspec_actions.specs.Views.{condition_of}
use Rattle.lexspec_actions.specs.declared.condition.Condition.{Condition as Made}
use Rattle.lexlook_calls.specs.Looks.{names_of}
use Rattle.lexlook_calls.proofs.labels.name_of.Goals as goal

pub returns : goal.returns
returns c = c.as_slice.ensures.value ∙ sym (ap (λ l. slice_index_or (names_of l) c.args.condition []) (sym c.conditions.ensures.conditions) ∙ get_or-map (λ (r : Condition). r.name) (map condition_of xs) c.args.condition (condition_of d) [] long ∙ ap (λ (r : Condition). r.name) (get_or-map condition_of xs c.args.condition d (condition_of d) within))
  where
    xs : List Made
    xs = c.conditions.result.now

    d : Made
    d = c.index-conditions-condition.result

    long : c.args.condition < length (map condition_of xs)
    long = omega (arith, c.requires, ap length c.conditions.ensures.conditions)

    within : c.args.condition < length xs
    within = omega (arith, long, length-map xs condition_of)
