use Rattle.std.proofs.Common.{subst, ◌∙◌}
use Rattle.lex_semantics.specs.Machine.{Machine}
use Rattle.lex_machine.specs.Singles.{IsCopied}
use Rattle.lextab_packed.specs.declared.flat.Flat.{Flat}
use Rattle.lextab_packed.specs.declared.singles.Most.TheVariants.{Copied}
use Rattle.lextab_packed.specs.Machines.{table_machine}
use Rattle.lextab_packed.specs.Singles.{TellsSingles}
use Rattle.lextab_packed.proofs.Singling.{told_at, singles_of}
use Rattle.lextab_packed.proofs.flat.FlatMachine.copied.Goals as goal

pub returns-in-Copied : goal.returns-in-Copied
returns-in-Copied c =
    let f : Flat = c.args.self.now in
    let M : Machine = table_machine f.tables in
    let told : TellsSingles M f.rows.items c.args.condition (Copied c.in-Copied.start) =
    subst (TellsSingles M f.rows.items c.args.condition) c.in-Copied.is (told_at f c.args.condition c.from.result c.index.result.now c.requires.condition c.from.ensures c.index.ensures) in
    singles_of IsCopied M c.args.condition c.args.first c.args.bytes.now c.first_copied.result (λ b. told b ∙ c.if-start-first.true) c.first_copied.ensures
