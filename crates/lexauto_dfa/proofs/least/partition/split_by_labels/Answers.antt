use Rattle.std.proofs.Common.{◌∙◌}
use Rattle.lexauto_dfa.proofs.AlikeBlocks.{one_more}
use Rattle.lexauto_dfa.proofs.least.partition.split_by_labels.Goals as goal

pub loop-label-preserved : goal.loop-label-preserved
loop-label-preserved c =
    let v = c.loop-label.invariant in
    let k = c.in_ok-split.ensures.counts in
    record {
      ready = c.in_ok-split.ensures.ready;
      same_states = k.same_states ∙ v.same_states;
      alike = one_more c.args.labels.now.row.items c.loop-label.label c.loop-label.blocks c.split.new.blocks c.loop-label.waiting.items c.split.new.waiting.items k.same_states
          c.in_ok-split.ensures.cuts v.alike;
    }
