use Rattle.std.proofs.Common.{◌≡◌, ◌++◌, take}
use Rattle.lexscan.specs.Series.{end_of}
use Rattle.liblex_calls.specs.Brief.{long_tokens}
use Rattle.liblex_calls.proofs.brief.append_long.Given as goal

-- the tokens so far are appended
abbrev pub invariant-loop-i : goal.invariant-loop-i
invariant-loop-i l = record {
  next : l.next ≡ end_of l.start (take l.i l.tokens);
  list : l.list.items ≡ l.fn.list.items ++ long_tokens l.start (take l.i l.tokens);
}
