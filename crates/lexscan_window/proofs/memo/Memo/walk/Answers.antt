use Rattle.std.proofs.Common.{rules, ◌<◌, length, inl, refl, sym, subst}
use Rattle.std.specs.List.{flat_map}
use Rattle.lex_semantics.specs.Text.{Among}
use Rattle.lex_semantics.proofs.Fronts.{among_flat_map, among_right}
use Rattle.lexscan_window.specs.Memos.{marks_of, walk_of}
use Rattle.lexscan_window.proofs.Marks.{among_at}
use Rattle.lexscan_window.proofs.memo.Memo.walk.Goals as goal

pub returns-then-mark-state : goal.returns-then-mark-state
returns-then-mark-state c =
    let walks = c.self.inside.walks.items in
    let walk = c.index.result.now in
    let inside : c.cell-at.result < length c.self.inside.walks.items = search rules in
    let there = subst (λ x. Among walks x) (sym c.index.ensures) (among_at walks c.cell-at.result walk inside) in
    let held : Among (walk_of walk) c.in-Some.mark = subst (λ l. Among l c.in-Some.mark) (sym c.in-Some.ensures) (inl refl) in (
      subst (λ l. Among l c.in-Some.mark) c.self.view_is
          (among_right (flat_map marks_of c.self.inside.cells.items) (flat_map walk_of walks) _ (among_flat_map walk_of walks walk _ there held)),
      search rules,
      search rules,
    )
