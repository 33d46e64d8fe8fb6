use Rattle.std.proofs.Common.{◌≡◌, take}
use Rattle.std.specs.List.{flat_map}
use Rattle.lextab_packed.specs.Views.{table_rule_of}
use Rattle.lextab_file.specs.File.{rule_text}
use Rattle.lextab_file.proofs.writing.actions.put_rules.Given as goal

abbrev pub invariant-loop-rule : goal.invariant-loop-rule
invariant-loop-rule g l = record {
  told : g.K.Sink.wrote l.fn.sink (flat_map (λ r. rule_text (table_rule_of r)) (take l.rule-index l.rules)) l.sink;
  good : g.K.Sink.failures l.sink ≡ g.K.Sink.failures l.fn.sink;
}
