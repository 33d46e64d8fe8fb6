use Rattle.lexspec_lines.proofs.ReturnLaws.{rest_kept, return_dropped, return_kept}
use Rattle.lexspec_lines.proofs.lines.without_returns.Goals as goal

pub loop-at-preserved-in-Continue-branch-2 : goal.loop-at-preserved-in-Continue-branch-2
loop-at-preserved-in-Continue-branch-2 c =
    return_kept c.args.text.now c.loop-at.kept.items c.loop-at.rest.now c.split_at.result.0.now c.split_at.result.1.now c.skip_first-rest.result.now c.extend_from_slice.new.self.items
    c.push.new.self.items c.in-Some.at c.starts_with.result c.in-Some.ensures c.loop-at.invariant c.split_at.ensures.front c.split_at.ensures.back
    c.in_ok-extend_from_slice.ensures.items c.skip_first-rest.ensures c.starts_with.ensures.value c.if-not-starts_with.true c.in_ok-push.ensures.items

pub loop-at-preserved : goal.loop-at-preserved
loop-at-preserved c =
    return_dropped c.args.text.now c.loop-at.kept.items c.loop-at.rest.now c.split_at.result.0.now c.split_at.result.1.now c.skip_first-rest.result.now c.extend_from_slice.new.self.items
    c.in-Some.at c.starts_with.result c.in-Some.ensures c.loop-at.invariant c.split_at.ensures.front c.split_at.ensures.back
    c.in_ok-extend_from_slice.ensures.items c.skip_first-rest.ensures c.starts_with.ensures.value c.if-not-starts_with.false

pub returns : goal.returns
returns c =
    rest_kept c.args.text.now c.loop-at.kept.items c.loop-at.rest.now c.extend_from_slice-2.new.self.items c.in_default.ensures c.loop-at.invariant c.in_ok-extend_from_slice-2.ensures.items
