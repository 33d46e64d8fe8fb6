use Rattle.std.proofs.Common.{rules, ◌≤◌, ◌∙◌, length, arith}
use Rattle.lexspec.proofs.ReadingLaws.{kept_short, rest_short, line_few, read_found, all_skipped, read_none, read_rules_told, read_length_told, read_definitions_told, section_none, section_told, section_line_told}
use Rattle.lexspec.proofs.reading.read_spec.Goals as goal
use Rattle.lex_semantics.specs.Limits.{max_file_bytes}

pub read_section-requires : goal.read_section-requires
read_section-requires c =
    let few : length c.args.text.now ≤ max_file_bytes = search rules in
    kept_short c.args.text.now c.deref.result.now few (c.deref.ensures.value ∙ c.in_ok-kept.ensures)

pub read_on-requires-clause-short : goal.read_on-requires-clause-short
read_on-requires-clause-short c =
    let few : length c.args.text.now ≤ max_file_bytes = search rules in
    let kept = kept_short c.args.text.now c.deref.result.now few (c.deref.ensures.value ∙ c.in_ok-kept.ensures) in
    omega (arith, kept, rest_short c.args.options c.deref.result.now c.in-Ok.section c.in-Ok.ensures.found)

pub read_on-requires-clause-line : goal.read_on-requires-clause-line
read_on-requires-clause-line c =
    let few : length c.args.text.now ≤ max_file_bytes = search rules in
    let kept = kept_short c.args.text.now c.deref.result.now few (c.deref.ensures.value ∙ c.in_ok-kept.ensures) in
    omega (arith, kept, line_few c.args.options c.deref.result.now c.in-Ok.section c.in-Ok.ensures.found)

pub returns-in-Ok-clause-found : goal.returns-in-Ok-clause-found
returns-in-Ok-clause-found c =
    let few : length c.args.text.now ≤ max_file_bytes = search rules in
    read_found c.read_on.result c.args.options c.args.text.now c.deref.result.now c.in-Ok.section few (c.deref.ensures.value ∙ c.in_ok-kept.ensures) c.in-Ok.ensures.found c.read_on.ensures.found

pub returns-in-Ok-clause-skipped : goal.returns-in-Ok-clause-skipped
returns-in-Ok-clause-skipped c =
    all_skipped c.read_on.result c.args.options c.args.text.now c.deref.result.now c.in-Ok.section (c.deref.ensures.value ∙ c.in_ok-kept.ensures) c.in-Ok.ensures.found c.read_on.ensures.skipped

pub returns-in-Ok-clause-none : goal.returns-in-Ok-clause-none
returns-in-Ok-clause-none c =
    read_none c.read_on.result c.args.options c.args.text.now c.deref.result.now c.in-Ok.section (c.deref.ensures.value ∙ c.in_ok-kept.ensures) c.in-Ok.ensures.found c.read_on.ensures.refused

pub returns-clause-none : goal.returns-clause-none
returns-clause-none c =
    section_none c.args.options c.args.text.now c.deref.result.now c.in-Err.fault.kind (c.deref.ensures.value ∙ c.in_ok-kept.ensures) c.in-Err.ensures.none

pub returns-in-Ok-clause-rules : goal.returns-in-Ok-clause-rules
returns-in-Ok-clause-rules c =
    read_rules_told c.read_on.result c.args.options c.args.text.now c.deref.result.now c.in-Ok.section (c.deref.ensures.value ∙ c.in_ok-kept.ensures) c.in-Ok.ensures.found c.read_on.ensures.refused

pub returns-in-Ok-clause-too_long : goal.returns-in-Ok-clause-too_long
returns-in-Ok-clause-too_long c =
    let few : length c.args.text.now ≤ max_file_bytes = search rules in
    read_length_told c.read_on.result c.args.text.now c.in-Ok.section few c.read_on.ensures.refused

pub returns-clause-rules : goal.returns-clause-rules
returns-clause-rules c = section_told c.args.options c.args.text.now c.deref.result.now c.in-Err.fault (c.deref.ensures.value ∙ c.in_ok-kept.ensures) c.in-Err.ensures.none

pub returns-in-Ok-clause-definitions : goal.returns-in-Ok-clause-definitions
returns-in-Ok-clause-definitions c =
    read_definitions_told c.read_on.result c.args.options c.args.text.now c.deref.result.now c.in-Ok.section (c.deref.ensures.value ∙ c.in_ok-kept.ensures) c.in-Ok.ensures.found

pub returns-clause-definitions : goal.returns-clause-definitions
returns-clause-definitions c = section_line_told c.args.text.now c.deref.result.now c.in-Err.fault (c.deref.ensures.value ∙ c.in_ok-kept.ensures) c.in-Err.ensures.told
