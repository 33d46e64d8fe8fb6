use Rattle.std.proofs.Common.{◌≡◌, ℕ, List, [], ◌++◌, sym, ap, subst}
use Rattle.lex_semantics.specs.Machine.{rules_of_machine}
use Rattle.lextab_packed.specs.Machines.{table_machine}
use Rattle.lextab_packed.specs.Table.{Table}
use Rattle.lextab_packed.specs.Invariant.{GoesOn}
use Rattle.lextab_packed.specs.Views.{table_of}
use Rattle.lexscan.specs.Runs.{Ran}
use Rattle.lexkit.specs.Headline.{max_reads}
use Rattle.lexkit.proofs.FileScanned.{one_list_of_flags, same_machine, ran}
use Rattle.lexkit.proofs.laws.file_scans.Goals as goal

pub returns : goal.returns
returns c limits S made tables t flags file leads given out at_end answer h =
    let u : Table = table_of made.parts in
    let e : t ≡ u = (c.one_table.ensures t u [] [] file.0 made.lawful (ap (λ (xs : List ℕ). xs ++ []) (sym file.1))).0 in
    let f : flags ≡ made.goes_on.items = one_list_of_flags u flags made.goes_on.items (subst (λ x. GoesOn x flags) e leads) made.leading in
    ran (table_machine made) made.laws S tables.sound (tables.canonical).table_for given out at_end answer
    (subst (λ M. Ran (rules_of_machine M) given out at_end max_reads answer) (same_machine t u flags made.goes_on.items e f) h)
