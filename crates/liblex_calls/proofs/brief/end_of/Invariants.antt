use Rattle.std.proofs.Common.{◌≡◌, take}
use Rattle.lexscan.specs.Series.{end_of}
use Rattle.liblex_calls.proofs.brief.end_of.Given as goal

-- where the tokens so far end
abbrev pub invariant-loop-i : goal.invariant-loop-i
invariant-loop-i l = l.end ≡ end_of l.start (take l.i l.tokens)
