use Rattle.std.proofs.Common.{sym}
use Rattle.std.proofs.lemmas.List.{take_all}
use Rattle.lex_semantics.specs.Limits.{max_file_bytes}
use Rattle.lexlook_check.proofs.findings.taken.Goals as goal

pub returns-then-text-le-MAX_FILE_BYTES-clause-front : goal.returns-then-text-le-MAX_FILE_BYTES-clause-front
returns-then-text-le-MAX_FILE_BYTES-clause-front c = sym (take_all max_file_bytes c.args.text.now c.if-text-le-MAX_FILE_BYTES.true)
