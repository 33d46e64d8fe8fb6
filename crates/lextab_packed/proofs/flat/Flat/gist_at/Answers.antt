use Rattle.std.proofs.Common.{get_or, refl, ap, ◌∙◌, arith}
use Rattle.std.proofs.lemmas.Option.{get_or_from_slice_get}
use Rattle.lex_semantics.specs.Machine.{Machine}
use Rattle.lextab_packed.specs.Flats.{kind_of}
use Rattle.lextab_packed.specs.Machines.{table_machine}
use Rattle.lextab_packed.proofs.Columns.{marks_none, marks_silent, marks_echo, marks_other}
use Rattle.lextab_packed.proofs.Marks.{few_states}
use Rattle.lextab_packed.proofs.flat.Flat.gist_at.Goals as goal

pub returns-else-target-lt-STOP_OTHER : goal.returns-else-target-lt-STOP_OTHER
returns-else-target-lt-STOP_OTHER c = λ s lt m.
    let t = c.args.self.now.tables in
    let M : Machine = table_machine t in
    let at = marks_other M s c.args.target (omega (arith, lt, few_states t)) (kind_of M s) m (omega (arith, c.if-target-lt-STOP_OTHER.false)) in
    let kinds = c.args.self.now.kinds.items in
    c.gist_of.ensures s (c.index.ensures ∙ ap (λ k. get_or kinds k c.index.result.now) at ∙ get_or_from_slice_get kinds s (kind_of M s) c.index.result.now (c.args.self.now.told s lt))

pub returns-then-target-lt-STOP_SILENT : goal.returns-then-target-lt-STOP_SILENT
returns-then-target-lt-STOP_SILENT c = λ s lt m.
    let t = c.args.self.now.tables in
    let M : Machine = table_machine t in
    marks_none M s c.args.target (omega (arith, lt, few_states t)) (kind_of M s) refl m (omega (arith, c.if-target-lt-STOP_SILENT.true))

pub returns-then-target-lt-STOP_ECHO : goal.returns-then-target-lt-STOP_ECHO
returns-then-target-lt-STOP_ECHO c = λ s lt m.
    let t = c.args.self.now.tables in
    let M : Machine = table_machine t in
    marks_silent M s c.args.target (omega (arith, lt, few_states t)) (kind_of M s) refl m (omega (arith, c.if-target-lt-STOP_SILENT.false)) (omega (arith, c.if-target-lt-STOP_ECHO.true))

pub returns-then-target-lt-STOP_OTHER : goal.returns-then-target-lt-STOP_OTHER
returns-then-target-lt-STOP_OTHER c = λ s lt m.
    let t = c.args.self.now.tables in
    let M : Machine = table_machine t in
    marks_echo M s c.args.target (omega (arith, lt, few_states t)) (kind_of M s) refl m (omega (arith, c.if-target-lt-STOP_ECHO.false)) (omega (arith, c.if-target-lt-STOP_OTHER.true))
