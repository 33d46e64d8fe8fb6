use Rattle.std.proofs.Common.{◌^◌, ◌∙◌, min, map, sym, ap}
use Rattle.lex_semantics.specs.Tree.{trees}
use Rattle.lexre.specs.Views.{is_marked, items_of, tree_of}
use Rattle.lexre.proofs.BareLaws.{marked_positions}
use Rattle.lexre.proofs.counts.+positions.Goals as goal

pub positions_in-returns-then-is_bare : goal.positions_in-returns-then-is_bare
positions_in-returns-then-is_bare t c =
    let none = marked_positions (is_marked c.args.parts.now) (trees (map tree_of (items_of c.args.parts.now))) (sym c.is_bare.ensures ∙ c.if-is_bare.true) in
    ap (λ k. min (2 ^ 32) k) (sym none)
