use Rattle.std.proofs.Common.{rules, ◌≡◌, refl, subst}
use Rattle.lexkit.specs.Headline.{Refusal}
use Rattle.lexkit.specs.declared.errors.GenError.TheVariants as gens
use Rattle.liblex_calls.specs.Kinds.{kind_number}
use Rattle.liblex_calls.proofs.Refused.{not_memory}
use Rattle.liblex_calls.proofs.listing.rule_lines_into.Goals as goal

pub returns-in-Err-Spec : goal.returns-in-Err-Spec
returns-in-Err-Spec c =
    let other : kind_number c.in-Err-Spec.error.kind ≡ 0 → ⊥ = search rules in
    let is : c.in-Err-Spec.field-0 ≡ gens.Spec c.in-Err-Spec.error = search rules in
    (not_memory c.in-Err-Spec.error.kind _ other (subst (Refusal c.args.options c.args.text.now) is c.in-Err-Spec.ensures.refused), record { buffer = refl; count_is = refl })
