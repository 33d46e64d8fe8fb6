use Rattle.std.proofs.Common.{rules, ◌<◌, true, length, get_or, arith}
use Rattle.std.proofs.lemmas.List.{length-set}
use Rattle.lexauto_dfa.proofs.Accepting.{set_more, among_get}
use Rattle.lexauto_dfa.proofs.accepted.set.Goals as goal

pub bounds-flags-rule : goal.bounds-flags-rule
bounds-flags-rule c =
    let low : c.loop-rule.rule-index < length c.args.rules.now = search rules in
    let known = c.requires.known (get_or c.args.rules.now c.loop-rule.rule-index 0) (among_get c.args.rules.now c.loop-rule.rule-index low) in
    omega (arith, known, c.loop-rule.invariant.len)

pub loop-rule-preserved : goal.loop-rule-preserved
loop-rule-preserved c =
    let low : c.loop-rule.rule-index < length c.args.rules.now = search rules in
    let known = c.requires.known (get_or c.args.rules.now c.loop-rule.rule-index 0) (among_get c.args.rules.now c.loop-rule.rule-index low) in
    let len = length-set c.loop-rule.flags (get_or c.args.rules.now c.loop-rule.rule-index 0) true in
    record {
      len = omega (arith, len, c.loop-rule.invariant.len);
      flags = set_more c.args.flags.now c.loop-rule.flags c.args.rules.now c.loop-rule.rule-index low (omega (arith, known, c.loop-rule.invariant.len)) c.loop-rule.invariant.flags;
    }
