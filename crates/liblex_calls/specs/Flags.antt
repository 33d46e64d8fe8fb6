-- How a specification is read, and whether a stream counts lines, as numbers. (flex, Scanner Options: case-insensitive,
-- posix, yylineno.)
use Rattle.std.specs.Prelude.{ℕ, Bool, ◌==◌, ◌%◌, ◌/◌}
use Rattle.lex_semantics.specs.Limits.{max_positions, max_states}
use Rattle.lexkit.specs.declared.options.Options.{Options}

-- bit 0: letters of patterns stand for both cases; bit 1: an interval applies to the whole series to its left. Other
-- bits count for nothing.
abbrev pub options_of : ℕ → Options
options_of flags =
    record {
      fold = flags % 2 == 1;
      posix = flags / 2 % 2 == 1;
      limits = record { positions = max_positions; states = max_states };
    }

-- bit 0: lines are counted. Other bits count for nothing.
abbrev pub counts_lines : ℕ → Bool
counts_lines flags = flags % 2 == 1
