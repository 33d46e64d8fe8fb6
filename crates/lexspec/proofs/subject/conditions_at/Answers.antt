use Rattle.std.proofs.Common.{rules, ◌∙◌, ◌==◌, ◌≡◌, length, sym, ap}
use Rattle.lex_semantics.specs.ByteSets.{same_bytes}
use Rattle.lexspec_lines.specs.Lines.{line_in}
use Rattle.lexspec.proofs.SubjectLaws.{list_open, list_every, list_only}
use Rattle.lexspec.proofs.subject.conditions_at.Goals as goal

pub returns-then-is_empty : goal.returns-then-is_empty
returns-then-is_empty c =
    let none : length c.split_before.result.1.now ≡ 0 = search rules in
    list_open c.args.text.now c.split_before.result.0.now c.split_before.result.1.now (record {
      no_eof = sym c.starts_with.ensures.value ∙ c.if-starts_with.false;
      opens = sym c.starts_with-else-starts_with.ensures.value ∙ c.if-not-starts_with.false;
      text = c.split_line.result.0.now;
      rest = c.split_line.result.1.now;
      line = ap line_in (sym c.skip_first.ensures) ∙ c.split_line.ensures.line;
      split = c.split_before.ensures.split (λ b. b == 62) (λ b r h post. search rules);
    }) none

pub returns-then-eq : goal.returns-then-eq
returns-then-eq c =
    let some : length c.split_before.result.1.now ≡ 0 → ⊥ = search rules in
    list_every c.args.text.now c.split_before.result.0.now c.split_before.result.1.now c.without_bytes-rest.result.now (record {
      no_eof = sym c.starts_with.ensures.value ∙ c.if-starts_with.false;
      opens = sym c.starts_with-else-starts_with.ensures.value ∙ c.if-not-starts_with.false;
      text = c.split_line.result.0.now;
      rest = c.split_line.result.1.now;
      line = ap line_in (sym c.skip_first.ensures) ∙ c.split_line.ensures.line;
      split = c.split_before.ensures.split (λ b. b == 62) (λ b r h post. search rules);
    }) some c.without_bytes-rest.ensures (ap (same_bytes c.split_before.result.0.now) (sym c.as_slice.ensures) ∙ sym c.eq.ensures ∙ c.if-eq.true)

pub returns : goal.returns
returns c =
    let some : length c.split_before.result.1.now ≡ 0 → ⊥ = search rules in
    list_only c.args.text.now c.split_before.result.0.now c.split_before.result.1.now c.without_bytes-rest.result.now (record {
      no_eof = sym c.starts_with.ensures.value ∙ c.if-starts_with.false;
      opens = sym c.starts_with-else-starts_with.ensures.value ∙ c.if-not-starts_with.false;
      text = c.split_line.result.0.now;
      rest = c.split_line.result.1.now;
      line = ap line_in (sym c.skip_first.ensures) ∙ c.split_line.ensures.line;
      split = c.split_before.ensures.split (λ b. b == 62) (λ b r h post. search rules);
    }) some c.without_bytes-rest.ensures (ap (same_bytes c.split_before.result.0.now) (sym c.as_slice.ensures) ∙ sym c.eq.ensures ∙ c.if-eq.false)
