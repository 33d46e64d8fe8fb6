use Rattle.std.proofs.Common.{◌≡◌, Bool, List, sym, ap, subst, ◌∙◌}
use Rattle.lex_semantics.specs.Text.{flag}
use Rattle.lexspec.specs.Views.{spec_of}
use Rattle.lexspec.proofs.TestLaws.{spec_is_sound}
use Rattle.lexauto_dfa.specs.declared.dfa.Parts.{Parts}
use Rattle.lexauto_dfa.proofs.Fitting.{fitting_laws}
use Rattle.lextab_packed.specs.Table.{Table}
use Rattle.lextab_packed.specs.Checks.{IsTable}
use Rattle.lextab_packed.specs.Steps.{machine_of_table}
use Rattle.lextab_packed.specs.Views.{table_of}
use Rattle.lextab_packed.specs.Invariant.{GoesOn}
use Rattle.lextab_packed.specs.declared.parts.TableParts.{TableParts}
use Rattle.lextab.specs.Assembled.{assembled, HasTexts}
use Rattle.lextab.specs.Columns.{packing_in}
use Rattle.lextab.specs.PackingViews.{packing_of}
use Rattle.lextab.proofs.Firsts.{first_alone}
use Rattle.lextab.proofs.Lawful.{is_table, goes_on, same_machine, has_packing}
use Rattle.lextab.proofs.tables.tables_by.Goals as goal

pub new-requires-clause-table : goal.new-requires-clause-table
new-requires-clause-table c =
    let p = c.args.dfa.now.parts in
    let a = c.args.dfa.now.lawful in
    let spec = spec_of c.args.spec.now in
    let q = packing_of c.args.packed in
    let is : table_of c.in_ok-table.table ≡ assembled p spec q = c.in_ok-table.ensures.table ∙ ap (λ (x : Parts). assembled x spec q) c.parts-parts.ensures in
    subst IsTable (sym is) (is_table p a spec (fitting_laws p a spec (spec_is_sound spec c.args.spec.now.sound) c.requires.conditions c.requires.table) c.requires.conditions c.args.spec.now.sound q c.requires.goes
    (λ none. first_alone p a spec c.requires.conditions c.requires.table none)
    (subst HasTexts is c.in_ok-table.ensures.texts))

pub new-requires-clause-flags : goal.new-requires-clause-flags
new-requires-clause-flags c =
    let p = c.args.dfa.now.parts in
    let a = c.args.dfa.now.lawful in
    let spec = spec_of c.args.spec.now in
    let q = packing_of c.args.packed in
    let is : table_of c.in_ok-table.table ≡ assembled p spec q = c.in_ok-table.ensures.table ∙ ap (λ (x : Parts). assembled x spec q) c.parts-parts.ensures in
    let flags : c.in_ok-goes_on.goes_on.items ≡ p.goes_on.items = c.in_ok-goes_on.ensures.items ∙ c.deref.ensures.value ∙ ap (λ (x : Parts). x.goes_on.items) c.parts-parts.ensures in
    subst (λ (t : Table). GoesOn t c.in_ok-goes_on.goes_on.items) (sym is)
    (subst (λ (l : List Bool). GoesOn (assembled p spec q) l) (sym flags) (goes_on p a spec (fitting_laws p a spec (spec_is_sound spec c.args.spec.now.sound) c.requires.conditions c.requires.table) c.requires.conditions c.args.spec.now.sound q c.requires.goes))

pub returns-clause-columns : goal.returns-clause-columns
returns-clause-columns c =
    let p = c.args.dfa.now.parts in
    let a = c.args.dfa.now.lawful in
    let spec = spec_of c.args.spec.now in
    let q = packing_of c.args.packed in
    let is : table_of c.new.result.parts ≡ assembled p spec q =
    ap (λ (x : TableParts). table_of x) c.new.ensures.parts ∙ c.in_ok-table.ensures.table ∙ ap (λ (x : Parts). assembled x spec q) c.parts-parts.ensures in
    ap (λ (t : Table). packing_in t) is
    ∙ has_packing p a spec (fitting_laws p a spec (spec_is_sound spec c.args.spec.now.sound) c.requires.conditions c.requires.table) c.requires.conditions c.args.spec.now.sound q c.requires.goes

pub returns-clause-machine : goal.returns-clause-machine
returns-clause-machine c =
    let p = c.args.dfa.now.parts in
    let a = c.args.dfa.now.lawful in
    let spec = spec_of c.args.spec.now in
    let q = packing_of c.args.packed in
    let is : table_of c.new.result.parts ≡ assembled p spec q =
    ap (λ (x : TableParts). table_of x) c.new.ensures.parts ∙ c.in_ok-table.ensures.table ∙ ap (λ (x : Parts). assembled x spec q) c.parts-parts.ensures in
    let flags : c.new.result.goes_on.items ≡ p.goes_on.items = c.new.ensures.flags ∙ c.in_ok-goes_on.ensures.items ∙ c.deref.ensures.value ∙ ap (λ (x : Parts). x.goes_on.items) c.parts-parts.ensures in
    ap (λ (t : Table). machine_of_table t (λ s. flag c.new.result.goes_on.items s)) is
    ∙ ap (λ (l : List Bool). machine_of_table (assembled p spec q) (λ s. flag l s)) flags
    ∙ same_machine p a spec (fitting_laws p a spec (spec_is_sound spec c.args.spec.now.sound) c.requires.conditions c.requires.table) c.requires.conditions c.args.spec.now.sound q c.requires.goes
