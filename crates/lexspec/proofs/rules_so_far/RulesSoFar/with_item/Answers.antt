use Rattle.std.proofs.Common.{rules, sym, ◌∙◌, ◌≡◌, ◌+◌, ◌<◌, false, length}
use Rattle.std.proofs.lemmas.Result.{err_from_is_err_and}
use Rattle.lexspec.specs.EndOpenings.{begins_end}
use Rattle.lexspec_lines.proofs.OneSection.{no_true}
use Rattle.lexspec.specs.SkipViews.{item_of}
use Rattle.lexspec_lines.proofs.SectionLaws.{newlines_front}
use Rattle.lexspec.proofs.BarLaws.{many_rules_no_bar, memory_no_bar, unclosed_no_bar}
use Rattle.lexspec.proofs.EndLaws.{item_ends}
use Rattle.lexspec.proofs.AwaitingLaws.{end_refused, full_refused, has_room}
use Rattle.lexspec.proofs.StepLaws.{reads_shorter, reads_counts, reads_code, plain_agrees, plain_refused, text_refused, rule_refused}
use Rattle.lexspec.proofs.rules_so_far.RulesSoFar.with_item.Goals.{then-begins_end+else-not-is_empty, else-begins_end+else-len-ge-MAX_RULES}
use Rattle.lexspec.proofs.rules_so_far.RulesSoFar.with_item.Goals as goal
use Rattle.lex_semantics.specs.Limits.{max_rules}

pub returns-in-Err-clause-refused : goal.returns-in-Err-clause-refused
returns-in-Err-clause-refused c = (
  plain_refused c.args.declarations.now c.args.self c.args.line c.args.text.now c.in-Err.kind c.in-Err.ensures.none,
  λ is. absurd (unclosed_no_bar c.in-Err.kind c.in-Err.ensures.fault is),
)

pub returns-in-Err-read_rule_text-clause-refused : goal.returns-in-Err-read_rule_text-clause-refused
returns-in-Err-read_rule_text-clause-refused c = (
  text_refused c.args.declarations.now c.args.self c.args.line c.args.text.now c.in-Err-read_rule_text.kind c.in-Err-read_rule_text.ensures.none,
  λ is. absurd (c.in-Err-read_rule_text.ensures.no_bar is),
)

pub returns-in-Err-with_rule-clause-refused : goal.returns-in-Err-with_rule-clause-refused
returns-in-Err-with_rule-clause-refused c = (
  rule_refused c.args.declarations.now c.args.self c.args.line c.args.text.now c.in-Ok-read_rule_text.found c.in-Err-with_rule.kind c.in-Ok-read_rule_text.ensures.found c.in-Err-with_rule.ensures.none,
  c.in-Err-with_rule.ensures.bar,
)

pub returns-then-not-is_empty-clause-refused : goal.returns-then-not-is_empty-clause-refused
returns-then-not-is_empty-clause-refused c =
    let some : length c.args.self.waiting.items ≡ 0 → ⊥ = search rules in (
      end_refused c.args.declarations.now c.args.self c.args.line c.args.text.now (rw c.in_default.is at c.in-Ok.ensures.rule) (sym c.begins_end.ensures ∙ c.if-begins_end.true) some,
      λ is. some,
    )

pub returns-then-len-ge-MAX_RULES-clause-refused : goal.returns-then-len-ge-MAX_RULES-clause-refused
returns-then-len-ge-MAX_RULES-clause-refused c = (
  full_refused c.args.declarations.now c.args.self c.args.line c.args.text.now (rw c.in_default.is at c.in-Ok.ensures.rule) (sym c.begins_end.ensures ∙ c.if-begins_end.false)
      (search rules),
  λ is. absurd (many_rules_no_bar is),
)

pub returns-in_err-add_skip-clause-refused : goal.returns-in_err-add_skip-clause-refused
returns-in_err-add_skip-clause-refused c =
    let p = err_from_is_err_and c.from_residual.result c.from_residual.ensures.1 in
    rw (p.1, p.2) (tt, λ is. absurd (memory_no_bar is))

has_place : (c : goal.In-Ok-with_rule) → begins_end c.args.text.now ≡ false → length c.args.self.rules.items + length c.args.self.waiting.items < max_rules
has_place c = elim c.if-begins_end.branch [
  | then-begins_end+else-not-is_empty w ↦ λ off. no_true (sym off ∙ sym c.begins_end.ensures ∙ w.if-begins_end.true)
  | else-begins_end+else-len-ge-MAX_RULES w ↦ λ off. search rules
]

pub returns-in-Some-clause-taken : goal.returns-in-Some-clause-taken
returns-in-Some-clause-taken c = record {
  found = plain_agrees c.args.declarations.now c.args.self c.args.line c.args.text.now c.in-Some.skip c.in-Some.rest.now (rw c.in-Some.is at c.in-Ok.ensures.found);
  keeps = λ k. k;
  code = record { item = item_of c.in-Some.skip; here = rw c.in-Some.is at c.in-Ok.ensures.found; code = c.in_ok-add_skip.ensures };
  counts = newlines_front c.args.text.now c.in-Some.rest.now (item_ends c.args.text.now (item_of c.in-Some.skip) c.in-Some.rest.now (rw c.in-Some.is at c.in-Ok.ensures.found));
  shorter = rw c.in-Some.is at c.in-Ok.ensures.shorter;
}

pub returns-in-Ok-with_rule-clause-taken : goal.returns-in-Ok-with_rule-clause-taken
returns-in-Ok-with_rule-clause-taken c = record {
  found = c.in-Ok-with_rule.ensures.found c.args.line c.args.text.now c.in-Ok-read_rule_text.found.rest.now c.in-Ok-read_rule_text.ensures.found;
  keeps = (λ k.
      c.in-Ok-with_rule.ensures.keeps c.in-Ok-read_rule_text.ensures.sound
      (has_room c.args.declarations.now c.args.self c.args.line c.args.text.now c.in-Ok-read_rule_text.found.action.now c.in-Ok-read_rule_text.found.rest.now c.in-Ok-read_rule_text.found.front
      c.in-Ok-read_rule_text.ensures.found (has_place c)) k);
  code = reads_code c.args.declarations.now c.args.line c.args.text.now c.in-Ok-read_rule_text.found c.args.skipped.now c.in-Ok-read_rule_text.ensures.found;
  counts = reads_counts c.args.declarations.now c.args.line c.args.text.now c.in-Ok-read_rule_text.found c.in-Ok-read_rule_text.ensures.found;
  shorter = reads_shorter c.args.declarations.now c.args.line c.args.text.now c.in-Ok-read_rule_text.found c.in-Ok-read_rule_text.ensures.found;
}
