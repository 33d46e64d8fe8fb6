use Rattle.std.proofs.Common.{rules, ◌≡◌, ◌<◌, ◌⊎◌, length, inl, inr, ap, ◌∙◌, subst}
use Rattle.std.specs.List.{flat_map}
use Rattle.lex_semantics.specs.Text.{Among}
use Rattle.lex_semantics.proofs.Fronts.{among_append, among_left, among_right}
use Rattle.lexscan_window.specs.declared.memo.Mark.{Mark}
use Rattle.lexscan_window.specs.Memos.{marks_of, walk_of, silent}
use Rattle.lexscan_window.proofs.Marks.{put_in}
use Rattle.lexscan_window.proofs.memo.Memo.put_silent.Goals as goal

pub returns-in-Some : goal.returns-in-Some
returns-in-Some c m h =
    let cells = c.self.inside.cells.items in
    let walks = c.self.inside.walks.items in
    let cell = c.index.result.now in
    let inside : c.in-Some.at < length c.self.inside.cells.items = search rules in
    let same : c.in-Ok.state ≡ c.args.state = search rules in
    let new : Mark = silent c.args.place c.in-Ok.state in
    let only = subst (λ x. (n : Mark) → Among (marks_of c.marked.result) n → Among (marks_of x) n ⊎ (n ≡ new)) c.index.ensures c.marked.ensures in
    elim (among_append _ (flat_map walk_of walks) m h) [
      | inl a ↦ elim (put_in marks_of cells c.in-Some.at cell c.marked.result new m inside only a) [
        | inl b ↦ inl (subst (λ l. Among l m) c.self.view_is (among_left (flat_map marks_of cells) (flat_map walk_of walks) m b))
        | inr e ↦ inr (e ∙ ap (λ s. silent c.args.place s) same)
      ]
      | inr a ↦ inl (subst (λ l. Among l m) c.self.view_is (among_right (flat_map marks_of cells) (flat_map walk_of walks) m a))
    ]
