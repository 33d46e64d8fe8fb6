use Rattle.std.proofs.Common.{rules, ◌<◌, length, sym, subst}
use Rattle.std.specs.List.{flat_map}
use Rattle.lex_semantics.specs.Text.{Among}
use Rattle.lex_semantics.proofs.Fronts.{among_flat_map, among_left}
use Rattle.lexscan_window.specs.Memos.{marks_of, walk_of, silent}
use Rattle.lexscan_window.proofs.Marks.{among_at}
use Rattle.lexscan_window.proofs.memo.Memo.has.Goals as goal

pub returns-then-has : goal.returns-then-has
returns-then-has c _ =
    let cells = c.self.inside.cells.items in
    let cell = c.index-cell.result.now in
    let inside : c.cell-at.result < length c.self.inside.cells.items = search rules in
    let there = subst (λ x. Among cells x) (sym c.index-cell.ensures) (among_at cells c.cell-at.result cell inside) in
    let held = subst (λ p. Among (marks_of cell) (silent p c.args.state)) (c.is_at.ensures c.if-is_at.true) (c.has.ensures c.if-has.true) in
    subst (λ l. Among l (silent c.args.place c.args.state)) c.self.view_is
    (among_left (flat_map marks_of cells) (flat_map walk_of c.self.inside.walks.items) _ (among_flat_map marks_of cells cell _ there held))
