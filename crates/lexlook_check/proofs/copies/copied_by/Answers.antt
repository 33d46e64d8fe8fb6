use Rattle.std.proofs.Common.{◌∙◌, Bool, List, length, ap, subst}
use Rattle.std.proofs.lemmas.Result.{IfOk-weaker}
use Rattle.lexlook_specs.proofs.FitsAlike.{copied_shown}
use Rattle.lexlook_specs.specs.Copied.{AreCopied}
use Rattle.lexlook_specs.specs.Matches.{matches_in}
use Rattle.lexspec.specs.Views.{spec_of}
use Rattle.lexlook_check.proofs.RejectedLaws.{accepts_known, as_many}
use Rattle.lexlook_check.proofs.copies.copied_by.Goals as goal

pub copied_bytes-requires-clause-rules : goal.copied_bytes-requires-clause-rules
copied_bytes-requires-clause-rules c =
    let S = spec_of c.args.spec in
    let T = spec_of c.in_ok-spec.spec in
    let count = ap (λ (l : List Bool). length l) c.as_slice.ensures.value ∙ c.in_ok-rejects.ensures.len ∙ as_many S T c.in_ok-spec.ensures in
    λ s i _ a. accepts_known _ _ c.in-Ok.ensures.laws count s i a

pub returns : goal.returns
returns c =
    let b = c.in-Ok.ensures in
    let p = c.in-Ok.automaton.parts in
    IfOk-weaker c.copied_bytes.result _ _
    (λ bytes h. copied_shown (spec_of c.args.spec) (spec_of c.in_ok-spec.spec) p c.in_ok-rejects.rejects.items bytes.items c.in_ok-spec.ensures b.conditions b.table c.in_ok-rejects.ensures.len c.in_ok-rejects.ensures.flags
    (subst (λ (l : List Bool). AreCopied (matches_in p l) bytes.items) c.as_slice.ensures.value h)) c.copied_bytes.ensures
