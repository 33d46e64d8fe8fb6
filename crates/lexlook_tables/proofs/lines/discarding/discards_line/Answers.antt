use Rattle.std.proofs.Common.{ℕ, sym, ◌∙◌, subst, arith}
use Rattle.lex_semantics.specs.Text.{Among}
use Rattle.lexlook_tables.proofs.Exploring.{if_ok_then, some_among}
use Rattle.lexlook_tables.proofs.lines.discarding.discards_line.Goals as goal

pub returns-clause-yes : goal.returns-clause-yes
returns-clause-yes g c = if_ok_then c.all_discard.result (λ _ all is. record {
  initial = omega (arith, c.if-condition-ne0.false);
  taken = subst (λ l. (i : ℕ) × Among l i) c.accepts.ensures (some_among c.accepts.result.now (sym c.is_empty.ensures ∙ c.if-is_empty.false));
  discards = all is;
  again = c.starts_again.ensures.yes c.if-not-starts_again.false;
}) c.all_discard.ensures.yes
