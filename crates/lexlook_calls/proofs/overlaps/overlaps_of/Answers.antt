use Rattle.std.proofs.Common.{◌∙◌, Bool, List, Err, length, ap, subst}
use Rattle.lexspec.specs.Views.{spec_of}
use Rattle.lexlook_specs.specs.Matches.{matches_in}
use Rattle.lexlook_specs.specs.Overlaps.{AreOverlaps}
use Rattle.lexlook_calls.specs.Overlaps.{max_pairs}
use Rattle.lexlook_calls.proofs.RejectedLaws.{accepts_known, as_many}
use Rattle.lexlook_calls.proofs.Shown.{overlaps_shown, refused_alike}
use Rattle.lexlook_calls.proofs.overlaps.overlaps_of.Goals as goal

pub find_overlaps-requires-clause-rules : goal.find_overlaps-requires-clause-rules
find_overlaps-requires-clause-rules c =
    let S = spec_of c.args.spec in
    let T = spec_of c.in-Ok-rejecting.spec in
    let count = ap (λ (l : List Bool). length l) c.deref.ensures.value ∙ c.in-Ok.ensures.len ∙ as_many S T c.in-Ok-rejecting.ensures in
    λ s i _ a. accepts_known _ _ c.in-Ok-build.ensures.laws count s i a

pub returns-in-Err-build-clause-refused : goal.returns-in-Err-build-clause-refused
returns-in-Err-build-clause-refused c =
    refused_alike c.args.limits (spec_of c.args.spec) (spec_of c.in-Ok-rejecting.spec) c.in-Err-build.error c.in-Ok-rejecting.ensures (λ e. c.in-Err-build.ensures.too_many_positions (ap Err e)) (λ e. c.in-Err-build.ensures.too_many_states (ap Err e))

pub returns-clause-overlaps : goal.returns-clause-overlaps
returns-clause-overlaps c =
    let b = c.in-Ok-build.ensures in
    overlaps_shown c.args.limits (spec_of c.args.spec) (spec_of c.in-Ok-rejecting.spec) c.in-Ok-build.automaton c.in-Ok.rejects.items c.in-Ok-find_overlaps.overlaps.items c.in-Ok-rejecting.ensures b.table b.conditions b.states b.few_positions b.few_states
    c.in-Ok.ensures.len c.in-Ok.ensures.flags (subst (λ l. AreOverlaps (matches_in c.in-Ok-build.automaton.parts l) max_pairs c.in-Ok-find_overlaps.overlaps.items) c.deref.ensures.value c.in-Ok-find_overlaps.ensures)
