use Rattle.std.proofs.Common.{◌≡◌, ◌∙◌, ℕ, List, ◌++◌, ap, take}
use Rattle.lexkit.specs.Generated.{lines_of}
use Rattle.lexspec.specs.Views.{rules_in, spec_of}
use Rattle.lexlook_check.specs.Conditions.{faultless_notices}
use Rattle.lexlook_check.specs.Differences.{differences}
use Rattle.lexlook_check.specs.Returns.{lone_returns}
use Rattle.lexlook_check.specs.Notices.{max_notices, text_notices}
use Rattle.lexlook_check.specs.declared.notices.Notice.{Notice}
use Rattle.lexlook_check.proofs.notices.notices_of.Goals as goal

pub returns : goal.returns
returns c =
    let S = spec_of c.args.spec.now in
    let lines : c.as_slice.result.now ≡ lines_of (rules_in S) = c.as_slice.ensures.value ∙ c.in_ok-rules.ensures ∙ ap lines_of c.rules.ensures.rules in
    let texts = c.in_ok-notices.ensures ∙ ap (λ (l : List ℕ). text_notices c.args.own c.args.whole.now l c.args.text.now) lines in
    let more : c.add_differences.new.notices.items
    ≡ text_notices c.args.own c.args.whole.now (lines_of (rules_in S)) c.args.text.now ++ differences c.args.faultless S c.args.text.now =
    c.in_ok-add_differences.ensures ∙ ap (λ (z : List Notice). z ++ differences c.args.faultless S c.args.text.now) texts in
    let lone : c.add_lone_returns.new.notices.items
    ≡ text_notices c.args.own c.args.whole.now (lines_of (rules_in S)) c.args.text.now ++ differences c.args.faultless S c.args.text.now ++ lone_returns c.args.text.now =
    c.in_ok-add_lone_returns.ensures ∙ ap (λ (z : List Notice). z ++ lone_returns c.args.text.now) more in
    c.truncate.ensures.items
    ∙ ap (take max_notices) (c.in_ok-add_conditions.ensures ∙ ap (λ (z : List Notice). z ++ faultless_notices c.args.faultless S c.args.copied.now c.args.text.now) lone)
