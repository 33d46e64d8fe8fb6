use Rattle.std.proofs.Common.{inl, inr, ap, subst}
use Rattle.std.specs.Prelude.{is_ok}
use Rattle.std.specs.List.{flat_map}
use Rattle.lex_semantics.specs.Text.{Among}
use Rattle.lex_semantics.proofs.Fronts.{among_append}
use Rattle.lexscan_window.specs.Memos.{marks_of, walk_of}
use Rattle.lexscan_window.proofs.Marks.{laid}
use Rattle.lexscan_window.proofs.memo.Memo.lay_out.Goals as goal

pub returns : goal.returns
returns c m h =
    elim (among_append (flat_map marks_of c.resize.new.self.items) (flat_map walk_of c.clear.new.self.items) m (c.lay_out_walks.ensures m h)) [
      | inl a ↦ c.new-dead.ensures m (laid marks_of (is_ok c.resize.result) c.args.size _ c.clear-2.new.self.items c.resize.new.self.items _ m c.clear-2.ensures.items c.resize.ensures.items a)
      | inr a ↦ absurd (subst (λ l. Among l m) (ap (flat_map walk_of) c.clear.ensures.items) a)
    ]
