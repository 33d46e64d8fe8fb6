use Rattle.std.proofs.Common.{arith, ◌∙◌}
use Rattle.std.proofs.lemmas.List.{length-set}
use Rattle.lexauto_dfa.proofs.Accepting.{among_get}
use Rattle.lexlook_specs.proofs.Places.{lower_kept, lower_lowered}
use Rattle.lexlook_specs.proofs.words.placing.lower.Goals as goal

pub slice_copy_out-smaller : goal.slice_copy_out-smaller
slice_copy_out-smaller c =
    let known = c.requires.known _ (among_get c.args.rules.now c.loop-rule.rule-index c.loop-rule-test.true) in
    let len = c.loop-rule.invariant.len in
    omega (arith, known, len)

pub bounds-firsts-rule : goal.bounds-firsts-rule
bounds-firsts-rule c =
    let known = c.requires.known _ (among_get c.args.rules.now c.loop-rule.rule-index c.loop-rule-test.true) in
    let len = c.loop-rule.invariant.len in
    omega (arith, known, len)

pub loop-rule-preserved : goal.loop-rule-preserved
loop-rule-preserved c =
    let rules = c.args.rules.now in
    let i = c.loop-rule.rule-index in
    let low = c.loop-rule-test.true in
    let known = c.requires.known _ (among_get rules i low) in
    let v = c.loop-rule.invariant in
    let len = v.len in
    record {
      len = length-set c.loop-rule.firsts _ c.smaller.result ∙ len;
      kept = lower_kept c.args.firsts.now c.loop-rule.firsts rules i c.args.place c.smaller.result low (omega (arith, known, len)) c.smaller.ensures v.kept v.lowered;
      lowered = lower_lowered c.args.firsts.now c.loop-rule.firsts rules i c.args.place c.smaller.result low (omega (arith, known, len)) c.smaller.ensures v.kept v.lowered;
    }
