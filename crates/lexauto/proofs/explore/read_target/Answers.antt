use Rattle.std.proofs.Common.{◌≤◌, length, IfOk, OnOk, subst}
use Rattle.std.specs.Prelude.{IsErrOf}
use Rattle.lexauto.specs.Keys.{Key, At, Absent, Found}
use Rattle.lexauto.specs.KeyPacking.{kept_in}
use Rattle.lexauto.specs.declared.explore.ExploreError.TheVariants.{TooMany}
use Rattle.lexauto.proofs.Kept.{kept_so, says_key}
use Rattle.lexauto.proofs.explore.read_target.Goals as goal

pub intern_kept-requires-clause-kept : goal.intern_kept-requires-clause-kept
intern_kept-requires-clause-kept g c = kept_so c.in_ok-kept.kept.items (g.M.Moves.read c.args.moves.now c.args.followers.now c.args.byte) (c.in_ok-kept.ensures)

pub returns-clause-place : goal.returns-clause-place
returns-clause-place g c =
    subst (λ (k : Key). IfOk c.intern_kept.result (λ i. At (kept_in c.intern_kept.new.table.keys.items) i k))
    (says_key c.in_ok-kept.kept.items (g.M.Moves.read c.args.moves.now c.args.followers.now c.args.byte) (c.in_ok-kept.ensures)) c.intern_kept.ensures.place

pub returns-clause-found : goal.returns-clause-found
returns-clause-found g c =
    subst (λ (k : Key). OnOk c.intern_kept.result (Found (kept_in c.args.table.now.keys.items) k (kept_in c.intern_kept.new.table.keys.items)))
    (says_key c.in_ok-kept.kept.items (g.M.Moves.read c.args.moves.now c.args.followers.now c.args.byte) (c.in_ok-kept.ensures)) c.intern_kept.ensures.found

pub returns-clause-full : goal.returns-clause-full
returns-clause-full g c =
    subst (λ (k : Key). IsErrOf c.intern_kept.result TooMany → Absent (kept_in c.args.table.now.keys.items) k × (c.args.limit ≤ length c.args.table.now.keys.items))
    (says_key c.in_ok-kept.kept.items (g.M.Moves.read c.args.moves.now c.args.followers.now c.args.byte) (c.in_ok-kept.ensures)) c.intern_kept.ensures.full
