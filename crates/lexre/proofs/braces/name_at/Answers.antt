use Rattle.lex_semantics.specs.Reading.{goes_on_name}
use Rattle.std.proofs.Common.{rules, None, Some}
use Rattle.lexre.proofs.BraceLaws.{name_then}
use Rattle.lexre.proofs.braces.name_at.Goals as goal

pub returns-in_err-after : goal.returns-in_err-after
returns-in_err-after c =
    rw c.from_residual.ensures (name_then c.args.text.now _ _ None (c.take_up_to.ensures.front goes_on_name (λ b r h post. search rules)) c.in_err-after.ensures)

pub returns : goal.returns
returns c =
    name_then c.args.text.now _ _ (Some c.in_ok-after.after.now) (c.take_up_to.ensures.front goes_on_name (λ b r h post. search rules)) c.in_ok-after.ensures
