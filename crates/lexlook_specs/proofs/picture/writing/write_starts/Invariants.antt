use Rattle.std.proofs.Common.{◌≡◌, map, flat_map}
use Rattle.std.specs.List.{range_with_len}
use Rattle.lexlook_specs.specs.Pictures.{starts_of}
use Rattle.lexlook_specs.proofs.picture.writing.write_starts.Given as goal

abbrev pub invariant-loop-condition : goal.invariant-loop-condition
invariant-loop-condition g l = record {
  told : g.K.Sink.wrote l.fn.sink (flat_map (starts_of l.dfa (map (λ n. n.now) l.names)) (range_with_len 0 l.condition)) l.sink;
  good : g.K.Sink.failures l.sink ≡ g.K.Sink.failures l.fn.sink;
}
