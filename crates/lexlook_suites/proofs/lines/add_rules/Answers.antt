use Rattle.std.proofs.Common.{◌∙◌, ◌++◌, ap}
use Rattle.std.specs.Prelude.{slice_index}
use Rattle.lexlook_specs.proofs.Joining.{more_in_range}
use Rattle.lexlook_suites.specs.CoverLines.{share_line}
use Rattle.lexlook_suites.specs.Shares.{share_of}
use Rattle.lexlook_suites.specs.declared.lines.Subject.TheVariants.{Line}
use Rattle.lexlook_suites.specs.declared.shares.Share.{Share}
use Rattle.lexlook_suites.proofs.lines.add_rules.Goals as goal

pub loop-rule-preserved : goal.loop-rule-preserved
loop-rule-preserved c =
    let i = c.loop-rule.rule in
    let subject = Line (slice_index c.args.lines.now i) in
    more_in_range (λ k. share_line (Line (slice_index c.args.lines.now k)) (share_of c.args.states.now k) (share_of c.args.edges.now k)) _ _ _ i c.loop-rule.invariant
    (c.in_ok-add_line.ensures ∙ ap (λ (s : Share). c.loop-rule.text.items ++ share_line subject s c.share_of-in-loop-rule.result) c.share_of.ensures
    ∙ ap (λ (s : Share). c.loop-rule.text.items ++ share_line subject (share_of c.args.states.now i) s) c.share_of-in-loop-rule.ensures)
