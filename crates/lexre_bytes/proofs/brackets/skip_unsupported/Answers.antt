use Rattle.std.proofs.Common.{◌∙◌, Some, None, refl, sym}
use Rattle.lexre_bytes.proofs.BracketLaws.{negated_then, equivalence_then, collating_then}
use Rattle.lexre_bytes.proofs.EndLaws.{word_stop}
use Rattle.lexre_bytes.proofs.brackets.skip_unsupported.Goals as goal

pub returns-in_err-after : goal.returns-in_err-after
returns-in_err-after c = rw c.from_residual.ensures (negated_then c.args.text.now c.in-Some.rest.now None c.in-Some.ensures c.in_err-after.ensures)

pub returns-in_ok-after : goal.returns-in_ok-after
returns-in_ok-after c =
    negated_then c.args.text.now c.in-Some.rest.now (Some (c.in_ok-after.field-0-0.now, c.in_ok-after.after.now)) c.in-Some.ensures c.in_ok-after.ensures

pub returns-in-Some-skip_word : goal.returns-in-Some-skip_word
returns-in-Some-skip_word c = equivalence_then c.args.text.now c.in-Some-skip_word.rest.now _ c.in_default.ensures c.in-Some-skip_word.ensures c.skip_enclosed.ensures

pub returns-in_err-skip_word : goal.returns-in_err-skip_word
returns-in_err-skip_word c =
    rw c.from_residual-in_err-skip_word.ensures (collating_then c.args.text.now None c.in_default.ensures c.in_default-skip_word.ensures c.in_err-skip_word.ensures)

pub returns-in_ok-skip_word : goal.returns-in_ok-skip_word
returns-in_ok-skip_word c =
    collating_then c.args.text.now (Some c.in_ok-skip_word.field-0.now) c.in_default.ensures c.in_default-skip_word.ensures c.in_ok-skip_word.ensures
    ∙ c.skip_enclosed-in_default-skip_word.ensures

pub skip_enclosed-requires : goal.skip_enclosed-requires
skip_enclosed-requires c = c.requires ∙ sym (word_stop 91 61 c.args.text.now c.in-Some-skip_word.rest.now refl refl c.in-Some-skip_word.ensures)

pub skip_enclosed-requires-in_default-skip_word : goal.skip_enclosed-requires-in_default-skip_word
skip_enclosed-requires-in_default-skip_word c = c.requires ∙ sym (word_stop 91 46 c.args.text.now c.in_ok-skip_word.field-0.now refl refl c.in_ok-skip_word.ensures)
