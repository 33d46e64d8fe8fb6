use Rattle.std.proofs.Common.{◌≡◌, ◌<◌, length, arith, rules, sym, ap, ◌∙◌}
use Rattle.std.specs.Prelude.{Some}
use Rattle.lextab_packed.specs.Views.{table_of}
use Rattle.lextab_file.specs.Refusals.{is_trailing}
use Rattle.lextab_file.proofs.Bytes.{text_from_places}
use Rattle.lextab_file.proofs.Whole.{file_taken, no_file, no_file_more, front_taken, fault_told, more_told, no_trailing}
use Rattle.lextab_file.proofs.reading.read_parts.Goals as goal

pub returns-then-is_empty-clause-found : goal.returns-then-is_empty-clause-found
returns-then-is_empty-clause-found c =
    let none : length c.in-Ok.rest.now ≡ 0 = search rules in
    file_taken c.args.bytes.now (table_of c.in-Ok.parts) c.in-Ok.rest.now (text_from_places c.args.bytes.now (λ i. omega (arith, c.type_inv.bytes i))) c.in-Ok.ensures none

pub returns-else-is_empty-clause-refused : goal.returns-else-is_empty-clause-refused
returns-else-is_empty-clause-refused c = λ m.
    let more : 0 < length c.in-Ok.rest.now = search rules in
    more_told c.args.bytes.now (table_of c.in-Ok.parts) c.in-Ok.rest.now c.in-Ok.ensures more

pub returns-else-is_empty-clause-none : goal.returns-else-is_empty-clause-none
returns-else-is_empty-clause-none c = λ m.
    let more : 0 < length c.in-Ok.rest.now = search rules in
    no_file_more c.args.bytes.now (table_of c.in-Ok.parts) c.in-Ok.rest.now c.in-Ok.ensures more

pub returns-else-is_empty-clause-trailing : goal.returns-else-is_empty-clause-trailing
returns-else-is_empty-clause-trailing c = λ m.
    let more : 0 < length c.in-Ok.rest.now = search rules in
    front_taken c.args.bytes.now (table_of c.in-Ok.parts) c.in-Ok.rest.now (text_from_places c.args.bytes.now (λ i. omega (arith, c.type_inv.bytes i))) c.in-Ok.ensures more

pub returns-in-Err-clause-refused : goal.returns-in-Err-clause-refused
returns-in-Err-clause-refused c = λ m. fault_told c.args.bytes.now c.in-Err.error (c.in-Err.ensures (sym c.in_file.ensures.memory ∙ m)) ∙ ap Some (sym c.in_file.ensures.told)

pub returns-in-Err-clause-none : goal.returns-in-Err-clause-none
returns-in-Err-clause-none c = λ m. no_file c.args.bytes.now c.in-Err.error (c.in-Err.ensures (sym c.in_file.ensures.memory ∙ m))

pub returns-in-Err-clause-trailing : goal.returns-in-Err-clause-trailing
returns-in-Err-clause-trailing c = λ m. absurd (no_trailing _ c.in-Err.error (ap is_trailing (sym c.in_file.ensures.told) ∙ m))
