use Rattle.std.proofs.Common.{◌≡◌, take}
use Rattle.std.specs.List.{flat_map}
use Rattle.lextab_packed.specs.Views.{condition_of}
use Rattle.lextab_file.specs.File.{condition_text}
use Rattle.lextab_file.proofs.writing.conditions.put_conditions.Given as goal

abbrev pub invariant-loop-condition : goal.invariant-loop-condition
invariant-loop-condition g l = record {
  told : g.K.Sink.wrote l.fn.sink (flat_map (λ c. condition_text (condition_of c)) (take l.condition-index l.conditions)) l.sink;
  good : g.K.Sink.failures l.sink ≡ g.K.Sink.failures l.fn.sink;
}
