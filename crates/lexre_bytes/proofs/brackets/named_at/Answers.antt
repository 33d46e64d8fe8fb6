use Rattle.std.proofs.Common.{◌∙◌, None, Some}
use Rattle.lexre_bytes.proofs.BracketLaws.{named_then}
use Rattle.lexre_bytes.proofs.brackets.named_at.Goals as goal

pub returns-in_err-skip_word : goal.returns-in_err-skip_word
returns-in_err-skip_word c = rw c.from_residual.ensures (named_then c.args.text.now None c.in_err-skip_word.ensures)

pub returns : goal.returns
returns c = named_then c.args.text.now (Some c.in_ok-skip_word.field-0.now) c.in_ok-skip_word.ensures ∙ c.letters_at.ensures
