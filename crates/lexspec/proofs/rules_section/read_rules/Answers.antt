use Rattle.std.proofs.Common.{rules, [], sym, ◌∙◌, length, arith, refl, inr}
use Rattle.std.proofs.lemmas.Bool.{eqb-true}
use Rattle.lexspec.proofs.KeepLaws.{keeps_first}
use Rattle.lexspec.specs.ItemRuns.{EndsRules, IsLine, code_of_item}
use Rattle.lexspec_lines.proofs.CodeLaws.{tells_none}
use Rattle.lexspec.proofs.RestLaws.{over_empty, agrees_first, item_refused, goes_on, item_read, ended_found, ended_line, ended_refused, item_told, ended_code, newlines_few}
use Rattle.lexspec.proofs.rules_section.read_rules.Goals.{then-items-test+else-not-starts_with, else-items-test, in-DanglingBar, in_default}
use Rattle.lexspec.proofs.rules_section.read_rules.Goals as goal

pub items-init : goal.items-init
items-init c = record {
  read = record { before = []; up_to = (refl, refl); agrees = agrees_first c.args.declarations.now c.new-progress.result c.new-progress.ensures.rules c.new-progress.ensures.waiting c.new-progress.ensures.ends };
  keeps = keeps_first c.args.declarations.now c.new-progress.result c.new-progress.ensures.rules c.new-progress.ensures.waiting c.new-progress.ensures.ends;
  known = c.requires.known_so_far;
  code = (λ before told. tells_none IsLine code_of_item before _ c.args.text.now _ told);
  line = refl;
  shorter = omega arith;
}

pub with_item-requires-clause-line : goal.with_item-requires-clause-line
with_item-requires-clause-line c = omega (arith, c.items.invariant.line, newlines_few c.args.text.now, c.requires.short, c.requires.first)

pub with_item-requires-clause-starts : goal.with_item-requires-clause-starts
with_item-requires-clause-starts c = (search rules, search rules)

pub with_item-requires-clause-room : goal.with_item-requires-clause-room
with_item-requires-clause-room c = c.items.invariant.keeps.few

pub returns-in-Err-clause-refused : goal.returns-in-Err-clause-refused
returns-in-Err-clause-refused c =
    item_refused c.args.declarations.now c.args.first c.items.line c.args.text.now c.items.rest.now c.items.progress _ c.items.invariant.read c.items.invariant.keeps
    (goes_on c.items.rest.now (search rules) (search rules)) c.in-Err.ensures.refused.0 c.in-Err.ensures.refused.1
    (elim c.match-kind.branch [
      | in-DanglingBar w ↦ λ other. absurd (other w.in-DanglingBar.is)
      | in_default w ↦ λ other. w.line-is
    ])
    (elim c.match-kind.branch [
      | in-DanglingBar w ↦ λ same. w.line-is ∙ c.line_waiting-waiting.ensures
      | in_default w ↦ λ same. absurd (w.in_default.not-DanglingBar same)
    ])

pub newlines_before-line-requires : goal.newlines_before-line-requires
newlines_before-line-requires c = omega (arith, c.items.invariant.shorter, c.requires.short)

pub overflow_add-line : goal.overflow_add-line
overflow_add-line c =
    omega (arith, c.items.invariant.line, newlines_few c.args.text.now, c.requires.short, c.requires.first, c.in-Ok.ensures.taken.counts, c.newlines_before-line.ensures)

pub items-smaller : goal.items-smaller
items-smaller c = c.in-Ok.ensures.taken.shorter

pub items-preserved : goal.items-preserved
items-preserved c = record {
  read = item_read c.args.declarations.now c.items.progress c.in-Ok.found.0 c.args.first c.items.line c.newlines_before-line.result c.args.text.now c.items.rest.now c.in-Ok.found.1.now
      c.in-Ok.ensures.taken.found c.in-Ok.ensures.taken.counts c.newlines_before-line.ensures c.items.invariant.read;
  keeps = c.in-Ok.ensures.taken.keeps c.items.invariant.keeps;
  known = c.in-Ok.ensures.known;
  code = (λ before told. item_told before _ c.items.line c.args.text.now c.items.rest.now _ _ _ (c.items.invariant.code before told) c.items.invariant.line c.in-Ok.ensures.taken.code);
  line = omega (arith, c.items.invariant.line, c.in-Ok.ensures.taken.counts, c.newlines_before-line.ensures);
  shorter = omega (arith, c.items.invariant.shorter, c.in-Ok.ensures.taken.shorter);
}

is_over : (c : goal.After-finish) → EndsRules c.items.rest.now
is_over c = elim c.items-test.branch [
  | then-items-test+else-not-starts_with w ↦ inr (sym w.starts_with.ensures.value ∙ w.if-not-starts_with.false)
  | else-items-test w ↦ over_empty c.items.rest.now (eqb-true (length c.items.rest.now) 0 (sym c.is_empty.ensures ∙ w.items-test.false))
]

pub returns-clause-found : goal.returns-clause-found
returns-clause-found c =
    ended_found c.args.declarations.now c.finish.result c.args.first c.items.line c.args.text.now c.items.rest.now c.items.progress c.items.invariant.read c.items.invariant.keeps (is_over c)
    c.finish.ensures.waiting c.finish.ensures.rules c.finish.ensures.ends c.finish.ensures.rest

pub returns-clause-line : goal.returns-clause-line
returns-clause-line c = ended_line c.finish.result c.items.line _ c.items.rest.now c.finish.ensures.line c.finish.ensures.rest c.items.invariant.line

pub returns-clause-code : goal.returns-clause-code
returns-clause-code c = ended_code c.finish.result _ c.args.text.now c.items.rest.now _ _ c.items.invariant.code c.finish.ensures.rest

pub returns-clause-refused : goal.returns-clause-refused
returns-clause-refused c =
    ended_refused c.args.declarations.now c.finish.result c.args.first c.items.line c.args.text.now c.items.rest.now c.items.progress c.items.invariant.read c.items.invariant.keeps (is_over c) c.finish.ensures.none c.finish.ensures.fault
