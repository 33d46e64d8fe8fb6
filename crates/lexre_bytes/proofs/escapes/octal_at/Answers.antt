use Rattle.std.proofs.Common.{rules}
use Rattle.lex_semantics.specs.ByteSets.{within}
use Rattle.lexre_bytes.proofs.EscapeLaws.{octal_found, octal_refused}
use Rattle.lexre_bytes.proofs.escapes.octal_at.Goals as goal

pub returns-in_err-byte : goal.returns-in_err-byte
returns-in_err-byte c =
    rw c.from_residual.ensures (octal_refused c.args.text.now _ _ _ _ (c.take_up_to.ensures.front (within 48 55) (λ b r h post. search rules)) c.capped_value.ensures c.try_from.ensures c.in_err-byte.ensures.value)

pub returns : goal.returns
returns c = octal_found c.args.text.now _ _ _ _ _ (c.take_up_to.ensures.front (within 48 55) (λ b r h post. search rules)) c.capped_value.ensures c.try_from.ensures c.in_ok-byte.ensures.value
