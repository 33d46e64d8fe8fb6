use Rattle.std.proofs.Common.{◌∙◌, sym, None}
use Rattle.lex_semantics.proofs.ReadingLaws.{empty_test}
use Rattle.lexre_bytes.proofs.IntervalLaws.{exactly, at_least, at_least_too_many, no_comma, comma_unclosed, comma_no_digit, between}
use Rattle.lexre.proofs.braces.interval_at.Goals as goal

pub returns-in_err-counts-clause-front : goal.returns-in_err-counts-clause-front
returns-in_err-counts-clause-front c =
    rw c.from_residual.ensures (exactly c.args.text.now _ _ c.in-Some.after.now _ None c.digits_at.ensures c.capped_value-least.ensures c.in-Some.ensures (c.in_err-counts.ensures.front c.in-Some.after.now))

pub returns-in-Some-clause-front : goal.returns-in-Some-clause-front
returns-in-Some-clause-front c = exactly c.args.text.now _ _ c.in-Some.after.now _ _ c.digits_at.ensures c.capped_value-least.ensures c.in-Some.ensures (c.in_ok-counts.ensures.front c.in-Some.after.now)

pub returns-in_err-ok-clause-front : goal.returns-in_err-ok-clause-front
returns-in_err-ok-clause-front c =
    rw c.from_residual-in_err-ok.ensures (at_least_too_many c.args.text.now _ _ c.in-Some-skip_word.after.now _ _ c.digits_at.ensures c.capped_value-least.ensures
    c.in_default.ensures c.in-Some-skip_word.ensures c.try_from.ensures c.in_err-ok.ensures.value)

pub returns-in-Some-skip_word-clause-front : goal.returns-in-Some-skip_word-clause-front
returns-in-Some-skip_word-clause-front c =
    at_least c.args.text.now _ _ c.in-Some-skip_word.after.now _ _ _ c.digits_at.ensures c.capped_value-least.ensures
    c.in_default.ensures c.in-Some-skip_word.ensures c.try_from.ensures c.in_ok-ok.ensures.value

pub returns-in_err-skip_word-clause-front : goal.returns-in_err-skip_word-clause-front
returns-in_err-skip_word-clause-front c =
    rw c.from_residual-in_err-skip_word.ensures (no_comma c.args.text.now _ _ c.digits_at.ensures c.in_default.ensures c.in_default-skip_word.ensures c.in_err-skip_word.ensures)

pub returns-in_err-after-clause-front : goal.returns-in_err-after-clause-front
returns-in_err-after-clause-front c =
    rw c.from_residual-in_err-after.ensures (comma_unclosed c.args.text.now _ _ _ _ (record {
      run = c.digits_at.ensures;
      no_brace = c.in_default.ensures;
      no_end = c.in_default-skip_word.ensures;
      new = c.in_ok-skip_word.field-0.now;
      comma = c.in_ok-skip_word.ensures;
      second = c.digits_at-2.ensures;
    }) c.in_err-after.ensures)

pub returns-then-is_empty-clause-front : goal.returns-then-is_empty-clause-front
returns-then-is_empty-clause-front c =
    comma_no_digit c.args.text.now _ _ _ _ (record {
      run = c.digits_at.ensures;
      no_brace = c.in_default.ensures;
      no_end = c.in_default-skip_word.ensures;
      new = c.in_ok-skip_word.field-0.now;
      comma = c.in_ok-skip_word.ensures;
      second = c.digits_at-2.ensures;
    }) (sym (empty_test _) ∙ sym c.is_empty.ensures ∙ c.if-is_empty.true)

pub returns-in_err-counts-2-clause-front : goal.returns-in_err-counts-2-clause-front
returns-in_err-counts-2-clause-front c =
    rw c.from_residual-in_err-counts-2.ensures (between c.args.text.now _ _ _ _ c.in_ok-after.after.now _ _ None (record {
      run = c.digits_at.ensures;
      no_brace = c.in_default.ensures;
      no_end = c.in_default-skip_word.ensures;
      new = c.in_ok-skip_word.field-0.now;
      comma = c.in_ok-skip_word.ensures;
      second = c.digits_at-2.ensures;
    })
    c.capped_value-least.ensures c.capped_value.ensures (sym (empty_test _) ∙ sym c.is_empty.ensures ∙ c.if-is_empty.false) c.in_ok-after.ensures (c.in_err-counts-2.ensures.front c.in_ok-after.after.now))

pub returns-clause-front : goal.returns-clause-front
returns-clause-front c =
    between c.args.text.now _ _ _ _ c.in_ok-after.after.now _ _ _ (record {
      run = c.digits_at.ensures;
      no_brace = c.in_default.ensures;
      no_end = c.in_default-skip_word.ensures;
      new = c.in_ok-skip_word.field-0.now;
      comma = c.in_ok-skip_word.ensures;
      second = c.digits_at-2.ensures;
    })
    c.capped_value-least.ensures c.capped_value.ensures (sym (empty_test _) ∙ sym c.is_empty.ensures ∙ c.if-is_empty.false) c.in_ok-after.ensures (c.in_ok-counts-2.ensures.front c.in_ok-after.after.now)
