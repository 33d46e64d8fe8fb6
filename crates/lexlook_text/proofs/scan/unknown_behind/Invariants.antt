use Rattle.std.proofs.Common.{◌≡◌, ◌+◌, ◌<◌, ◌^◌, length}
use Rattle.lexlook_text.specs.Scan.{unknown_from}
use Rattle.lexlook_text.specs.WordViews.{words_of}
use Rattle.lexlook_text.proofs.scan.unknown_behind.Given as goal

-- the first of the text is that of the rest
abbrev pub invariant-bytes : goal.invariant-bytes
invariant-bytes l = record {
  first : unknown_from (words_of l.known) l.others l.fn.start l.text ≡ unknown_from (words_of l.known) l.left l.cursor l.rest;
  few_open : l.cursor.depth + length l.rest < 2 ^ 64;
  few_lines : l.cursor.line + length l.rest < 2 ^ 32;
  near_start : l.cursor.at + length l.rest < 2 ^ 64;
}

abbrev pub decreases-bytes : goal.decreases-bytes
decreases-bytes l = length l.rest
