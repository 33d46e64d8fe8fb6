use Rattle.std.proofs.Common.{rules, arith, sym, ap, ◌∙◌, ◌≡◌, [], length}
use Rattle.lexre_bytes.proofs.MemoryLaws.{always}
use Rattle.lexspec_lines.proofs.SectionLaws.{no_line, taking_refused, no_definition_at_end, no_separator_at_end, begin_reading, good_kept, read_line, line_counts, bad_line, bad_taking, bad_end, end_line}
use Rattle.lexspec_lines.proofs.OneSection.{no_true}
use Rattle.lexspec_lines.specs.Sections.{ends_line}
use Rattle.std.specs.List.{ends_with}
use Rattle.std.specs.Prelude.{codes, nat_eq, ◌||◌}
use Rattle.lexspec_lines.proofs.section.read_section.Goals.{then-is_empty-2, else-is_empty-2, then-ends_with, else-ends_with}
use Rattle.lexspec_lines.specs.SkippedCode.{code_of_definition}
use Rattle.lexspec_lines.specs.Skips.{IsDefinition}
use Rattle.lexspec_lines.proofs.CodeLaws.{tells_none, tells_more}
use Rattle.lexspec_lines.proofs.section.read_section.Goals as goal

pub lines-init : goal.lines-init
lines-init c = record { read = begin_reading c.args.options c.args.text.now _ c.in_ok-declarations.ensures.declares; line = search rules; code = tells_none IsDefinition code_of_definition [] _ c.args.text.now _ c.in_ok-declarations.ensures.code; counted = omega arith; shorter = omega arith }

pub take-requires-clause-good : goal.take-requires-clause-good
take-requires-clause-good c = good_kept c.args.options c.args.text.now c.lines.rest.now _ c.lines.invariant.read

pub returns-then-is_empty-clause-none : goal.returns-then-is_empty-clause-none
returns-then-is_empty-clause-none c = λ ds after h on allowed.
    let none : length c.lines.rest.now ≡ 0 = search rules in
    no_line c.args.text.now c.lines.rest.now _ c.lines.invariant.read.lines (no_definition_at_end _ none) (no_separator_at_end _ none) ds after h on

pub returns-in-Err-clause-none : goal.returns-in-Err-clause-none
returns-in-Err-clause-none c =
    always c.kind_of.result _ (λ ds after h on allowed.
    no_line c.args.text.now c.lines.rest.now _ c.lines.invariant.read.lines c.in-Err.ensures.none (sym c.starts_with.ensures.value ∙ c.if-starts_with.false) ds after h on)

pub returns-in-Err-take-clause-none : goal.returns-in-Err-take-clause-none
returns-in-Err-take-clause-none c =
    taking_refused c.in-Err-take.kind c.args.options c.args.text.now c.lines.rest.now _ _ _ c.lines.invariant.read c.in-Ok.ensures.found c.in-Err-take.ensures.none

pub lines-preserved : goal.lines-preserved
lines-preserved c = record {
  read = read_line c.args.options c.args.text.now c.lines.rest.now _ _ _ _ c.lines.invariant.read c.in-Ok.ensures.found c.in-Ok-take.ensures.found;
  line = line_counts c.lines.rest.now _ _ c.lines.line _ _ c.in-Ok.ensures.found c.lines.invariant.line c.newlines_before-line.ensures;
  code = tells_more IsDefinition code_of_definition [] _ c.args.text.now c.lines.rest.now _ c.lines.line _ _ _ c.lines.invariant.code c.lines.invariant.line c.in-Ok.ensures.found c.in-Ok-take.ensures.code;
  counted = omega (arith, c.lines.invariant.counted);
  shorter = omega (arith, c.in-Ok.ensures.shorter, c.lines.invariant.shorter);
}

pub returns-in-Err-clause-line : goal.returns-in-Err-clause-line
returns-in-Err-clause-line c = always c.kind_of.result _ c.lines.invariant.counted

pub returns-in-Err-take-clause-line : goal.returns-in-Err-take-clause-line
returns-in-Err-take-clause-line c = always c.in-Err-take.kind _ c.lines.invariant.counted

pub returns-in-Err-clause-told : goal.returns-in-Err-clause-told
returns-in-Err-clause-told c =
    always c.kind_of.result _ (bad_line c.args.options c.args.text.now c.lines.rest.now _ _ c.lines.invariant.read (sym c.starts_with.ensures.value ∙ c.if-starts_with.false) (search rules) c.in-Err.ensures.none c.lines.invariant.line)

pub returns-in-Err-take-clause-told : goal.returns-in-Err-take-clause-told
returns-in-Err-take-clause-told c =
    bad_taking c.args.options c.args.text.now c.lines.rest.now _ _ _ _ c.lines.invariant.read (sym c.starts_with.ensures.value ∙ c.if-starts_with.false) (search rules) c.in-Ok.ensures.found c.lines.invariant.line c.in-Err-take.ensures.none

value_is : (c : goal.After-drop-declarations-then-is_empty-2) → c.if-is_empty-2.value ≡ ends_line c.args.text.now
value_is c =
    let last = ends_with nat_eq c.args.text.now (codes "\n") in
    elim c.if-is_empty-2.branch [
      | then-is_empty-2 w ↦ w.value-is ∙ w.if-is_empty-2.true ∙ ap (λ b. b || last) (sym w.if-is_empty-2.true ∙ c.is_empty-then-is_empty.ensures)
      | else-is_empty-2 w ↦ w.value-is ∙ w.ends_with.ensures.value ∙ ap (λ b. b || last) (sym w.if-is_empty-2.false ∙ c.is_empty-then-is_empty.ensures)
    ]

pub returns-then-is_empty-clause-told : goal.returns-then-is_empty-clause-told
returns-then-is_empty-clause-told c =
    let none : length c.lines.rest.now ≡ 0 = search rules in
    bad_end c.args.options c.args.text.now c.lines.rest.now _ _ c.lines.invariant.read none
    (end_line c.args.text.now c.lines.rest.now c.lines.line c.if-ends_with.line c.if-is_empty-2.value (value_is c) none c.lines.invariant.line
    (elim c.if-ends_with.branch [
      | then-ends_with w ↦ λ same. w.line-is
      | else-ends_with w ↦ λ same. no_true (sym w.if-ends_with.false ∙ same)
    ])
    (elim c.if-ends_with.branch [
      | then-ends_with w ↦ λ more. no_true (sym more ∙ w.if-ends_with.true)
      | else-ends_with w ↦ λ more. w.line-is
    ]))
