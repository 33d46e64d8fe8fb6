use Rattle.std.proofs.Common.{◌≡◌, take}
use Rattle.std.specs.Int.{w32, to_be_bytes}
use Rattle.std.specs.List.{flat_map}
use Rattle.lextab_file.proofs.writing.fields.put_longs.Given as goal

abbrev pub invariant-loop-number : goal.invariant-loop-number
invariant-loop-number g l = record {
  told : g.K.Sink.wrote l.fn.sink (flat_map (to_be_bytes w32) (take l.number-index l.numbers)) l.sink;
  good : g.K.Sink.failures l.sink ≡ g.K.Sink.failures l.fn.sink;
}
