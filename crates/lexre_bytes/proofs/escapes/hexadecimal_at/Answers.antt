use Rattle.std.proofs.Common.{rules, sym, ◌∙◌}
use Rattle.lex_semantics.proofs.ReadingLaws.{empty_test}
use Rattle.lex_semantics.specs.ByteSets.{is_xdigit}
use Rattle.lexre_bytes.proofs.EscapeLaws.{hexadecimal_none, hexadecimal_found, hexadecimal_fits}
use Rattle.lexre_bytes.proofs.escapes.hexadecimal_at.Goals as goal

pub returns-then-is_empty : goal.returns-then-is_empty
returns-then-is_empty c = hexadecimal_none c.args.text.now _ _ (c.take_up_to.ensures.front is_xdigit (λ b r h post. search rules)) (sym (empty_test _) ∙ sym c.is_empty.ensures ∙ c.if-is_empty.true)

pub returns-in_err-byte : goal.returns-in_err-byte
returns-in_err-byte c = absurd (hexadecimal_fits c.args.text.now _ _ _ _ (c.take_up_to.ensures.front is_xdigit (λ b r h post. search rules)) c.capped_value.ensures c.try_from.ensures c.in_err-byte.ensures.value)

pub returns : goal.returns
returns c =
    hexadecimal_found c.args.text.now _ _ _ _ _ (c.take_up_to.ensures.front is_xdigit (λ b r h post. search rules)) (sym (empty_test _) ∙ sym c.is_empty.ensures ∙ c.if-is_empty.false)
    c.capped_value.ensures c.try_from.ensures c.in_ok-byte.ensures.value
