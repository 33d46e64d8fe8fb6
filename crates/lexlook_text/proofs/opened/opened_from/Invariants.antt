use Rattle.std.proofs.Common.{◌≡◌, ◌+◌, ◌<◌, ◌^◌, length}
use Rattle.lexlook_text.specs.Opened.{opened_from}
use Rattle.lexlook_text.proofs.opened.opened_from.Given as goal

-- what is open in the text is open in the rest
abbrev pub invariant-bytes : goal.invariant-bytes
invariant-bytes l = record {
  same : opened_from l.fn.start l.text ≡ opened_from l.open l.rest;
  few_open : l.open.cursor.depth + length l.rest < 2 ^ 64;
  few_lines : l.open.cursor.line + length l.rest < 2 ^ 32;
  near_start : l.open.cursor.at + length l.rest < 2 ^ 64;
}

abbrev pub decreases-bytes : goal.decreases-bytes
decreases-bytes l = length l.rest
