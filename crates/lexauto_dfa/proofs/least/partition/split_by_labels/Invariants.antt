use Rattle.std.proofs.Common.{◌≡◌}
use Rattle.lexauto_dfa.specs.Arranged.{states}
use Rattle.lexauto_dfa.specs.Going.{AreReady}
use Rattle.lexauto_dfa.specs.Labels.{AreAlike}
use Rattle.lexauto_dfa.proofs.least.partition.split_by_labels.Given as goal

abbrev pub invariant-loop-label : goal.invariant-loop-label
invariant-loop-label l = record {
  ready : AreReady l.blocks l.waiting.items;
  same_states : states l.blocks ≡ states l.fn.blocks;
  alike : AreAlike l.labels.row.items l.label l.blocks l.waiting.items;
}
