use Rattle.std.proofs.Common.{inl, inr, subst}
use Rattle.std.specs.Prelude.{is_ok}
use Rattle.std.specs.List.{flat_map}
use Rattle.lex_semantics.specs.Text.{Among}
use Rattle.lex_semantics.proofs.Fronts.{among_append, among_left}
use Rattle.lexscan_window.specs.Memos.{marks_of, walk_of}
use Rattle.lexscan_window.proofs.Marks.{laid}
use Rattle.lexscan_window.proofs.memo.Memo.lay_out_walks.Goals as goal

pub returns : goal.returns
returns c m h =
    let cells = c.self.inside.cells.items in
    elim (among_append (flat_map marks_of cells) (flat_map walk_of c.resize.new.self.items) m h) [
      | inl a ↦ subst (λ l. Among l m) c.self.view_is (among_left (flat_map marks_of cells) (flat_map walk_of c.self.inside.walks.items) m a)
      | inr a ↦ absurd (subst (λ l. Among l m) c.none.ensures
          (laid walk_of (is_ok c.resize.result) c.args.size _ c.clear.new.self.items c.resize.new.self.items _ m c.clear.ensures.items c.resize.ensures.items a))
    ]
