use Rattle.std.proofs.Common.{◌≡◌, ◌++◌, ◌∷◌, [], ℕ, List, ◌+◌, ap, subst, sym, ◌∙◌, Vec, Global}
use Rattle.lextab.specs.Searching.{AreEntries}
use Rattle.lextab.proofs.Counts.{more_entries, same_entries}
use Rattle.lextab.proofs.rows.read_entries.Goals.{then-target-default+in_ok-push, else-target-default}
use Rattle.lextab.proofs.rows.read_entries.Goals as goal

pub loop-k-preserved : goal.loop-k-preserved
loop-k-preserved c =
    let row = c.args.row.now in
    let items = λ (v : Vec ℕ Global). v.items in
    elim c.if-target-default.branch [
      | then-target-default+in_ok-push w ↦ (
          let e : c.if-target-default.entries.items ≡ c.loop-k.entries.items ++ c.loop-k.k ∷ [] = ap items w.entries-is ∙ w.in_ok-push.ensures.items in
          subst (λ (ks : List ℕ). AreEntries row c.args.default (c.loop-k.k + 1) ks) (sym e) (more_entries row c.args.default c.loop-k.k c.loop-k.entries.items c.loop-k.invariant w.if-target-default.true))
      | else-target-default w ↦ (
          let e = ap items w.entries-is in
          subst (λ (ks : List ℕ). AreEntries row c.args.default (c.loop-k.k + 1) ks) (sym e) (same_entries row c.args.default c.loop-k.k c.loop-k.entries.items c.loop-k.invariant w.if-target-default.false))
    ]
