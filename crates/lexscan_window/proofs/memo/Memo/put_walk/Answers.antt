use Rattle.std.proofs.Common.{rules, ◌≡◌, ◌<◌, ◌⊎◌, length, get_or, inl, inr, subst}
use Rattle.std.specs.List.{flat_map}
use Rattle.lex_semantics.specs.Text.{Among}
use Rattle.lex_semantics.proofs.Fronts.{among_append, among_left, among_right}
use Rattle.lexscan_window.specs.declared.memo.Mark.{Mark}
use Rattle.lexscan_window.specs.Memos.{marks_of, walk_of}
use Rattle.lexscan_window.proofs.Marks.{put_in}
use Rattle.lexscan_window.proofs.memo.Memo.put_walk.Goals as goal

pub returns-in-Some-walk_slot : goal.returns-in-Some-walk_slot
returns-in-Some-walk_slot c m h =
    let cells = c.self.inside.cells.items in
    let walks = c.self.inside.walks.items in
    let at = c.in-Some-walk_slot.at in
    let walk = c.in-Some.walk in
    let inside : at < length c.self.inside.walks.items = search rules in
    let only : (n : Mark) → Among (walk_of walk) n → Among (walk_of (get_or walks at walk)) n ⊎ (n ≡ c.args.mark) =
    λ n a. elim (subst (λ l. Among l n) c.in-Some.ensures a) [ inl e ↦ inr e | inr none ↦ absurd none ] in
    elim (among_append (flat_map marks_of cells) _ m h) [
      | inl a ↦ inl (subst (λ l. Among l m) c.self.view_is (among_left (flat_map marks_of cells) (flat_map walk_of walks) m a))
      | inr a ↦ elim (put_in walk_of walks at walk walk c.args.mark m inside only a) [
        | inl b ↦ inl (subst (λ l. Among l m) c.self.view_is (among_right (flat_map marks_of cells) (flat_map walk_of walks) m b))
        | inr e ↦ inr e
      ]
    ]
