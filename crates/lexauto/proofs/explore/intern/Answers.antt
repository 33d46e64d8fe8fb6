use Rattle.std.proofs.Common.{◌≤◌, ◌∙◌, length, IfOk, OnOk, ap, subst}
use Rattle.std.specs.Prelude.{IsErrOf}
use Rattle.lexauto.specs.Keys.{Key, At, Absent, Found}
use Rattle.lexauto.specs.KeyPacking.{kept_in, packed}
use Rattle.lexauto.specs.declared.explore.ExploreError.TheVariants.{TooMany}
use Rattle.lexauto.proofs.Kept.{kept_so, says_key}
use Rattle.lexauto.proofs.explore.intern.Goals as goal

pub intern_kept-requires-clause-kept : goal.intern_kept-requires-clause-kept
intern_kept-requires-clause-kept c = kept_so c.in_ok-kept.kept.items (c.args.key.items) (c.in_ok-kept.ensures ∙ ap packed c.deref.ensures.value)

pub returns-clause-place : goal.returns-clause-place
returns-clause-place c =
    subst (λ (k : Key). IfOk c.intern_kept.result (λ i. At (kept_in c.intern_kept.new.table.keys.items) i k))
    (says_key c.in_ok-kept.kept.items (c.args.key.items) (c.in_ok-kept.ensures ∙ ap packed c.deref.ensures.value)) c.intern_kept.ensures.place

pub returns-clause-found : goal.returns-clause-found
returns-clause-found c =
    subst (λ (k : Key). OnOk c.intern_kept.result (Found (kept_in c.args.table.now.keys.items) k (kept_in c.intern_kept.new.table.keys.items)))
    (says_key c.in_ok-kept.kept.items (c.args.key.items) (c.in_ok-kept.ensures ∙ ap packed c.deref.ensures.value)) c.intern_kept.ensures.found

pub returns-clause-full : goal.returns-clause-full
returns-clause-full c =
    subst (λ (k : Key). IsErrOf c.intern_kept.result TooMany → Absent (kept_in c.args.table.now.keys.items) k × (c.args.limit ≤ length c.args.table.now.keys.items))
    (says_key c.in_ok-kept.kept.items (c.args.key.items) (c.in_ok-kept.ensures ∙ ap packed c.deref.ensures.value)) c.intern_kept.ensures.full
