use Rattle.std.proofs.Common.{◌≡◌, ◌∙◌, ◌++◌, ℕ, List, Option, ap, map, option_map}
use Rattle.lexlook_text.specs.DeclaredNames.{declared_name_of, first_named}
use Rattle.lexspec.specs.RuleViews.{rule_of}
use Rattle.lexlook_check.specs.Copies.{copies_at}
use Rattle.lexlook_check.proofs.CopyLaws.{one_more}
use Rattle.lexlook_check.proofs.copies.copies_from.Goals as goal

pub loop-index-preserved : goal.loop-index-preserved
loop-index-preserved c =
    let rules = map rule_of c.args.rules.now in
    let places = map declared_name_of c.args.places.now in
    let old = c.loop-index.copies.items in
    let x = c.index-conditions-index.result in
    let place : option_map declared_name_of c.first_named-place.result ≡ first_named x.name.items places =
    c.first_named-place.ensures ∙ ap (λ (n : List ℕ). first_named n places) c.as_slice.ensures.value in
    let new = c.in_ok-add_copy.ensures ∙ ap (λ (p : Option (ℕ × ℕ × List ℕ)). old ++ copies_at p c.met_byte-byte.result) place
    ∙ ap (λ (b : Option ℕ). old ++ copies_at (first_named x.name.items places) b) c.met_byte-byte.ensures in
    one_more rules c.args.copied.now places c.args.conditions.now c.loop-index.index x old _ _ c.loop-index-test.true c.index-conditions-index.is new c.loop-index.invariant
