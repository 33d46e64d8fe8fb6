use Rattle.std.proofs.Common.{[], ◌∷◌, map, sym, ap, ◌∙◌}
use Rattle.lex_semantics.specs.Spec as S
use Rattle.lex_semantics.specs.Machine.{Machine}
use Rattle.lex_machine.specs.Views.{statement_of}
use Rattle.lex_machine.specs.Glances.{are_simple}
use Rattle.lextab_packed.specs.Machines.{table_machine}
use Rattle.lextab_packed.specs.declared.kinds.Kind.TheVariants.{NoRule, Silent, Echo, Print, Begin, Several}
use Rattle.lextab_packed.proofs.Columns.{knows, first_does, only_is}
use Rattle.lextab_packed.proofs.flat.gist_of.Goals as goal

pub returns-in-Some-Print : goal.returns-in-Some-Print
returns-in-Some-Print c = λ s e.
    let M : Machine = table_machine c.args.tables.now in
    let k = knows M s (Print c.in-Print.rule) (sym c.in-Print.is ∙ e) in
    first_does M s c.in-Print.rule (S.Print c.as_slice.result.now ∷ []) k.0
    (sym c.rule.ensures.statements ∙ only_is c.rule.result.1.now c.in-Some-Print.field-0.now (S.Print c.as_slice.result.now) (S.Print k.1.0) c.in-Some-Print.ensures.value
    (ap statement_of c.in-Some-Print.field-0-is ∙ ap S.Print (sym c.as_slice.ensures.value)) (c.rule.ensures.statements ∙ k.1.1))

pub returns-in-Several : goal.returns-in-Several
returns-in-Several c = λ s e.
    let M : Machine = table_machine c.args.tables.now in
    let k = knows M s (Several c.in-Several.rule) (sym c.in-Several.is ∙ e) in
    let does = c.rule-in-Several.ensures.statements in
    (ap are_simple does ∙ k.1, first_does M s c.in-Several.rule (map statement_of c.rule-in-Several.result.1.now) k.0 (sym does))

pub returns-in-Any : goal.returns-in-Any
returns-in-Any c = λ s e. tt

pub returns-in-NoRule : goal.returns-in-NoRule
returns-in-NoRule c = λ s e. knows (table_machine c.args.tables.now) s NoRule (sym c.in-NoRule.is ∙ e)

pub returns-in-Silent : goal.returns-in-Silent
returns-in-Silent c = λ s e. knows (table_machine c.args.tables.now) s Silent (sym c.in-Silent.is ∙ e)

pub returns-in-Echo : goal.returns-in-Echo
returns-in-Echo c = λ s e. knows (table_machine c.args.tables.now) s Echo (sym c.in-Echo.is ∙ e)

pub returns-in-Begin : goal.returns-in-Begin
returns-in-Begin c = λ s e. knows (table_machine c.args.tables.now) s (Begin c.in-Begin.condition) (sym c.in-Begin.is ∙ e)
