use Rattle.std.proofs.Common.{◌∙◌, ℕ, List, Option, ap, take}
use Rattle.lexspec.specs.Views.{spec_of}
use Rattle.lexlook_check.specs.Notices.{max_notices, notices_of}
use Rattle.lexlook_check.proofs.checking.noted_of.Goals as goal

pub returns : goal.returns
returns c = (
  c.in_ok-notices.ensures
      ∙ ap (λ (bytes : List (Option ℕ)). take max_notices (notices_of c.args.own c.args.faultless c.args.whole.now (spec_of c.args.spec.now) bytes c.args.text.now)) c.warned_bytes-warned.ensures,
  c.in_ok-copies.ensures,
)
