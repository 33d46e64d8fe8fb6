use Rattle.lex_command.proofs.CommandExamples as E
use Rattle.lex_command.proofs.job.laws.command_lines.Goals as goal

pub returns : goal.returns
returns c = record {
  no_words = E.no_words;
  bundled = E.bundled;
  apart = E.apart;
  no_stats = E.no_stats;
  names = E.names;
  behind_separator = E.behind_separator;
  scan = E.scan;
  table_with_fold = E.table_with_fold;
  scan_that_makes = E.scan_that_makes;
  value_behind_equals = E.value_behind_equals;
  unknown_flag = E.unknown_flag;
  scan_by_input = E.scan_by_input;
  scan_with_separator = E.scan_with_separator;
}
