use Rattle.std.proofs.Common.{◌≡◌, ◌+◌, ◌<◌, ◌^◌, length}
use Rattle.lexlook_text.specs.Formats.{format_from}
use Rattle.lexlook_text.proofs.formats.format_from.Given as goal

-- the first of the text is that of the rest
abbrev pub invariant-bytes : goal.invariant-bytes
invariant-bytes l = record {
  first : format_from l.fn.start l.text ≡ format_from l.scan l.rest;
  few_open : l.scan.cursor.depth + length l.rest < 2 ^ 64;
  few_lines : l.scan.cursor.line + length l.rest < 2 ^ 32;
  near_start : l.scan.cursor.at + length l.rest < 2 ^ 64;
}

abbrev pub decreases-bytes : goal.decreases-bytes
decreases-bytes l = length l.rest
