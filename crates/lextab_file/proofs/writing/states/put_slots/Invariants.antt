use Rattle.std.proofs.Common.{◌≡◌, take}
use Rattle.std.specs.List.{flat_map}
use Rattle.lextab_packed.specs.Views.{slots_of}
use Rattle.lextab_file.specs.File.{slot_text}
use Rattle.lextab_file.proofs.writing.states.put_slots.Given as goal

abbrev pub invariant-loop-i : goal.invariant-loop-i
invariant-loop-i g l = record {
  told : g.K.Sink.wrote l.fn.sink (flat_map slot_text (take l.i (slots_of l.checks l.nexts))) l.sink;
  good : g.K.Sink.failures l.sink ≡ g.K.Sink.failures l.fn.sink;
}
