use Rattle.std.proofs.Common.{◌∙◌, sym, rules, None, Some}
use Rattle.lex_semantics.proofs.ReadingLaws.{empty_test}
use Rattle.lex_semantics.specs.ByteSets.{is_alpha}
use Rattle.lexre_bytes.proofs.BracketLaws.{no_letters, letters_then}
use Rattle.lexre_bytes.proofs.brackets.letters_at.Goals as goal

pub returns-then-is_empty : goal.returns-then-is_empty
returns-then-is_empty c = no_letters c.args.text.now _ _ (c.take_up_to.ensures.front is_alpha (λ b r h post. search rules)) (sym (empty_test _) ∙ sym c.is_empty.ensures ∙ c.if-is_empty.true)

pub returns-in_err-after : goal.returns-in_err-after
returns-in_err-after c =
    rw c.from_residual.ensures (letters_then c.args.text.now _ _ None (c.take_up_to.ensures.front is_alpha (λ b r h post. search rules)) (sym (empty_test _) ∙ sym c.is_empty.ensures ∙ c.if-is_empty.false) c.in_err-after.ensures)

pub returns : goal.returns
returns c =
    letters_then c.args.text.now _ _ (Some c.in_ok-after.after.now) (c.take_up_to.ensures.front is_alpha (λ b r h post. search rules)) (sym (empty_test _) ∙ sym c.is_empty.ensures ∙ c.if-is_empty.false) c.in_ok-after.ensures
