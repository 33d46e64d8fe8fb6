use Rattle.std.proofs.Common.{ap, refl}
use Rattle.lexspec.specs.SubjectViews.{conditions_of, subject_of, trailing_of}
use Rattle.lexspec.proofs.BarLaws.{open_no_bar, subject_no_bar}
use Rattle.lexspec.proofs.ItemLaws.{refused_list, refused_numbers, refused_subject, refused_sides, refused_left_open, reads_end, reads_rule}
use Rattle.lexspec.proofs.rule_text.read_rule_text.Goals as goal

pub returns-in_default-clause-none : goal.returns-in_default-clause-none
returns-in_default-clause-none c = refused_list c.args.declarations.now c.args.text.now c.requires.starts c.in_default.ensures

pub returns-in-Err-clause-none : goal.returns-in-Err-clause-none
returns-in-Err-clause-none c =
    refused_numbers c.args.declarations.now c.args.text.now c.requires.starts c.in-Err.kind c.in-Some.after_list.now (conditions_of c.in-Some.asked) c.deref.result.now c.deref.ensures.value
    c.in-Some.ensures c.in-Err.ensures.none

pub returns-in-Err-subject_at-clause-none : goal.returns-in-Err-subject_at-clause-none
returns-in-Err-subject_at-clause-none c =
    refused_subject c.args.declarations.now c.args.text.now c.requires.starts c.in-Err-subject_at.kind c.in-Some.after_list.now (conditions_of c.in-Some.asked)
    c.in-Some.ensures c.in-Err-subject_at.ensures.none

pub returns-in-AtEnd-clause-found : goal.returns-in-AtEnd-clause-found
returns-in-AtEnd-clause-found c =
    reads_end c.args.declarations.now c.args.text.now c.requires.starts c.with_action.result c.args.line c.in-Some.after_list.now _ (conditions_of c.in-Some.asked) _ c.deref.result.now c.in-Ok.numbers
    c.deref.ensures.value c.in-Some.ensures c.in-Ok-subject_at.ensures.found (ap subject_of c.in-AtEnd.is) c.in-Ok.ensures.found c.with_action.ensures.front c.with_action.ensures.action

pub returns-in-AtEnd-clause-none : goal.returns-in-AtEnd-clause-none
returns-in-AtEnd-clause-none c =
    refused_left_open c.args.declarations.now c.args.text.now c.requires.starts c.with_action.result c.in-Some.after_list.now _ (conditions_of c.in-Some.asked) _ _
    c.in-Some.ensures c.in-Ok-subject_at.ensures.found (ap subject_of c.in-AtEnd.is) c.with_action.ensures.none

pub returns-in-Ok-read_sides-clause-found : goal.returns-in-Ok-read_sides-clause-found
returns-in-Ok-read_sides-clause-found c =
    reads_rule c.args.declarations.now c.args.text.now c.requires.starts c.with_action-in-Ok-read_sides.result c.args.line c.in-Some.after_list.now _ (conditions_of c.in-Some.asked) _
    c.in-Matching.anchored c.in-Matching.head.now (trailing_of c.in-Matching.trail) c.deref.result.now _
    c.deref.ensures.value c.in-Some.ensures c.in-Ok-subject_at.ensures.found (ap subject_of c.in-Matching.is) c.in-Ok.ensures.found refl refl
    c.in-Ok-read_sides.ensures.head c.in-Ok-read_sides.ensures.trail c.in-Ok-read_sides.ensures.cut c.with_action-in-Ok-read_sides.ensures.front c.with_action-in-Ok-read_sides.ensures.action

pub returns-in-Ok-read_sides-clause-none : goal.returns-in-Ok-read_sides-clause-none
returns-in-Ok-read_sides-clause-none c =
    refused_left_open c.args.declarations.now c.args.text.now c.requires.starts c.with_action-in-Ok-read_sides.result c.in-Some.after_list.now _ (conditions_of c.in-Some.asked) _ _
    c.in-Some.ensures c.in-Ok-subject_at.ensures.found (ap subject_of c.in-Matching.is) c.with_action-in-Ok-read_sides.ensures.none

pub returns-in-Err-read_sides-clause-none : goal.returns-in-Err-read_sides-clause-none
returns-in-Err-read_sides-clause-none c =
    refused_sides c.args.declarations.now c.args.text.now c.requires.starts c.in-Err-read_sides.kind c.in-Some.after_list.now _ (conditions_of c.in-Some.asked) _
    c.in-Matching.anchored c.in-Matching.head.now (trailing_of c.in-Matching.trail) c.in-Some.ensures c.in-Ok-subject_at.ensures.found (ap subject_of c.in-Matching.is) c.in-Err-read_sides.ensures.none

pub returns-in-Err-subject_at-clause-no_bar : goal.returns-in-Err-subject_at-clause-no_bar
returns-in-Err-subject_at-clause-no_bar c = subject_no_bar c.in-Err-subject_at.kind c.in-Err-subject_at.ensures.fault

pub returns-in-AtEnd-clause-no_bar : goal.returns-in-AtEnd-clause-no_bar
returns-in-AtEnd-clause-no_bar c = open_no_bar c.with_action.result c.with_action.ensures.fault

pub returns-in-Ok-read_sides-clause-no_bar : goal.returns-in-Ok-read_sides-clause-no_bar
returns-in-Ok-read_sides-clause-no_bar c = open_no_bar c.with_action-in-Ok-read_sides.result c.with_action-in-Ok-read_sides.ensures.fault
