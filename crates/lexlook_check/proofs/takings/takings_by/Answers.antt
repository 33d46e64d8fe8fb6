use Rattle.std.proofs.Common.{◌≡◌, ◌∙◌, ℕ, List, ap}
use Rattle.std.proofs.lemmas.Result.{IfOk-weaker}
use Rattle.lexkit.specs.Generated.{lines_of}
use Rattle.lexspec.specs.Views.{rules_in, spec_of}
use Rattle.lexlook_check.specs.Takings.{takings_of}
use Rattle.lexlook_check.proofs.takings.takings_by.Goals as goal

pub returns : goal.returns
returns c =
    let seen = c.in_ok-seen.seen in
    let lines : c.as_slice.result.now ≡ lines_of (rules_in (spec_of c.args.spec)) = c.as_slice.ensures.value ∙ c.in_ok-lines.ensures ∙ ap lines_of c.rules.ensures.rules in
    IfOk-weaker c.takings_of.result _ _
    (λ takings h. (seen.taken, seen.fits, c.in_ok-seen.ensures.taken, c.in_ok-seen.ensures.fits, h ∙ ap (λ (ls : List ℕ). takings_of ls seen.taken.rules.items seen.fits.rules.items) lines)) c.takings_of.ensures
