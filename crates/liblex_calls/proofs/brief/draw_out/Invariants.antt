use Rattle.std.proofs.Common.{◌≡◌, ◌++◌, take, drop}
use Rattle.lexscan.specs.Series.{end_of}
use Rattle.liblex_calls.specs.Brief.{long_tokens}
use Rattle.liblex_calls.proofs.brief.draw_out.Given as goal

-- the tokens so far stand at the front
abbrev pub invariant-loop-i : goal.invariant-loop-i
invariant-loop-i l = record {
  start : l.start ≡ end_of 0 (take l.i l.tokens);
  buffer : l.buffer ≡ take l.i (long_tokens 0 l.tokens) ++ drop l.i l.fn.buffer;
}
