use Rattle.std.proofs.Common.{◌≤◌, length, sym, arith}
use Rattle.std.proofs.lemmas.List.{length-take-le, take_all}
use Rattle.lexlook_suites.specs.Covers.{line_limit}
use Rattle.lexlook_suites.proofs.covering.told_of.Goals as goal

pub returns-then-edges-le-LINE_LIMIT : goal.returns-then-edges-le-LINE_LIMIT
returns-then-edges-le-LINE_LIMIT c = sym (take_all line_limit c.args.edges.now c.if-edges-le-LINE_LIMIT.true)

pub slice_bounds-result-end : goal.slice_bounds-result-end
slice_bounds-result-end c =
    let more = c.if-edges-le-LINE_LIMIT.false in
    let enough : line_limit ≤ length c.args.edges.now = omega (arith, more) in
    sym (length-take-le line_limit c.args.edges.now enough)
