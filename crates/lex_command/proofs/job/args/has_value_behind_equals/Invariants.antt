use Rattle.std.proofs.Common.{◌≡◌, drop, map}
use Rattle.std.specs.Prelude.{string_bytes}
use Rattle.lex_command.specs.CommandLine.{has_value_behind_equals}
use Rattle.lex_command.proofs.job.args.has_value_behind_equals.Given as goal

abbrev pub invariant-loop-word : goal.invariant-loop-word
invariant-loop-word l =
    has_value_behind_equals (map string_bytes (drop l.word-index l.words)) ≡ has_value_behind_equals (map string_bytes l.words)
