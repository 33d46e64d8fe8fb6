use Rattle.std.proofs.Common.{rules, ◌≡◌, ◌==◌, ◌∙◌, length, map, sym, ap}
use Rattle.lex_semantics.specs.Tree.{trees}
use Rattle.lexre.specs.Views.{items_of, tree_of}
use Rattle.lexre.proofs.BareLaws.{marked_least, marked_least_some, series_tree_of, choice_tree_of}
use Rattle.lexlook_check.proofs.EmptyLaws.{none_behind, some_at, some_is}
use Rattle.lexlook_check.proofs.empty_heads.+empty.Goals as goal

pub takes_empty-returns-then-is_bare : goal.takes_empty-returns-then-is_bare
takes_empty-returns-then-is_bare t c =
    let zero = marked_least c.in-Cat.parts.is_bare (trees (map tree_of (items_of c.in-Cat.parts))) (sym c.is_bare.ensures ∙ c.if-is_bare.true) in
    rw c.in-Cat.is (rw (series_tree_of c.in-Cat.parts) (ap (λ k. k == 0) (sym zero)))

pub takes_empty-returns-then-is_bare-2 : goal.takes_empty-returns-then-is_bare-2
takes_empty-returns-then-is_bare-2 t c =
    let zero = marked_least_some c.in-Alt.parts.is_bare (trees (map tree_of (items_of c.in-Alt.parts))) (sym c.is_bare-in-Alt.ensures ∙ c.if-is_bare-2.true) in
    rw c.in-Alt.is (rw (choice_tree_of c.in-Alt.parts) (ap (λ k. k == 0) (sym zero)))

pub some_takes_empty-returns-then-takes_empty : goal.some_takes_empty-returns-then-takes_empty
some_takes_empty-returns-then-takes_empty t c =
    let some : length c.args.parts.now ≡ 0 → ⊥ = search rules in
    some_at c.args.parts.now c.loop-part.part-index c.part-item.result c.loop-part-test.true c.part-item.is c.if-takes_empty.ensures
    ∙ c.loop-part.invariant ∙ sym (some_is c.args.parts.now some)

pub some_takes_empty-returns : goal.some_takes_empty-returns
some_takes_empty-returns t c =
    let some : length c.args.parts.now ≡ 0 → ⊥ = search rules in
    none_behind c.args.parts.now c.loop-part.part-index c.loop-part-test.false ∙ c.loop-part.invariant ∙ sym (some_is c.args.parts.now some)
