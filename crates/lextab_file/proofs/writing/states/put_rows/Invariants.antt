use Rattle.std.proofs.Common.{◌≡◌, take}
use Rattle.std.specs.List.{flat_map}
use Rattle.lextab_packed.specs.Views.{row_of}
use Rattle.lextab_file.specs.File.{row_text}
use Rattle.lextab_file.proofs.writing.states.put_rows.Given as goal

abbrev pub invariant-loop-row : goal.invariant-loop-row
invariant-loop-row g l = record {
  told : g.K.Sink.wrote l.fn.sink (flat_map (λ r. row_text (row_of r)) (take l.row-index l.rows)) l.sink;
  good : g.K.Sink.failures l.sink ≡ g.K.Sink.failures l.fn.sink;
}
