use Rattle.std.proofs.Common.{◌≡◌, drop}
use Rattle.std.specs.List.{list_all}
use Rattle.lex_names.specs.RuleNames.{continues_name}
use Rattle.lex_names.proofs.naming.all_continue.Given as goal

abbrev pub invariant-loop-byte : goal.invariant-loop-byte
invariant-loop-byte l = list_all continues_name (drop l.byte-index l.bytes) ≡ list_all continues_name l.bytes
