use Rattle.std.proofs.Common.{ℕ, subst}
use Rattle.std.proofs.lemmas.List.{length-map}
use Rattle.lex_semantics.specs.MachineLaws.{StaysBelow}
use Rattle.lextab_packed.specs.Views.{row_of, table_of, machine_of_parts}
use Rattle.lextab_packed.proofs.Machinery.{machine_laws, stays_below}
use Rattle.lextab_packed.proofs.tables.Tables.new.Goals as goal

pub invariant_of-result-clause-laws : goal.invariant_of-result-clause-laws
invariant_of-result-clause-laws c = machine_laws (table_of c.args.parts) c.requires.table c.args.goes_on.items c.requires.flags

pub invariant_of-result-clause-below : goal.invariant_of-result-clause-below
invariant_of-result-clause-below c =
    let p = c.args.parts in
    let flags = c.args.goes_on.items in
    subst (λ (n : ℕ). StaysBelow (machine_of_parts p flags) n) (length-map p.rows.items row_of) (stays_below (table_of p) c.requires.table flags c.requires.flags)
