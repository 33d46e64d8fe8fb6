use Rattle.std.proofs.Common.{◌≡◌, ◌-◌, ◌<◌, ℕ, length, flat_map}
use Rattle.std.specs.Prelude.{slice_index}
use Rattle.std.specs.List.{range_with_len}
use Rattle.lexauto_dfa.specs.Automata.{states_of}
use Rattle.lexlook_specs.specs.Pictures.{state_lines}
use Rattle.lexlook_specs.proofs.picture.writing.write_states.Given as goal

abbrev pub invariant-loop-state : goal.invariant-loop-state
invariant-loop-state g l = record {
  told : g.K.Sink.wrote l.fn.sink (flat_map (state_lines l.dfa l.lines) (range_with_len 1 (l.state - 1))) l.sink;
  good : g.K.Sink.failures l.sink ≡ g.K.Sink.failures l.fn.sink;
  room : length l.drawn ≡ states_of l.dfa;
  earlier : (t : ℕ) → slice_index l.drawn t < l.state;
}
