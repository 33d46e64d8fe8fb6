use Rattle.std.proofs.Common.{◌≡◌, drop, map}
use Rattle.std.specs.Prelude.{string_bytes}
use Rattle.lex_command.specs.LookLine.{first_about}
use Rattle.lex_command.proofs.look.args.first_about.Given as goal

abbrev pub invariant-loop-word : goal.invariant-loop-word
invariant-loop-word l =
    first_about l.version (map string_bytes (drop l.word-index l.words)) ≡ first_about l.version (map string_bytes l.words)
