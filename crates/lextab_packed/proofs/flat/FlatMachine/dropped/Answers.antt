use Rattle.std.proofs.Common.{◌*◌, subst, ◌∙◌}
use Rattle.lex_semantics.specs.Machine.{Machine}
use Rattle.lex_machine.specs.Singles.{IsDropped}
use Rattle.lextab_packed.specs.declared.flat.Flat.{Flat}
use Rattle.lextab_packed.specs.declared.singles.Most.TheVariants.{Dropped}
use Rattle.lextab_packed.specs.Machines.{table_machine}
use Rattle.lextab_packed.specs.Singles.{OthersDrop, TellsSingles}
use Rattle.lextab_packed.proofs.Singling.{told_at, singles_of}
use Rattle.lextab_packed.proofs.flat.FlatMachine.dropped.Goals as goal

pub returns-in-Dropped : goal.returns-in-Dropped
returns-in-Dropped c =
    let f : Flat = c.args.self.now in
    let M : Machine = table_machine f.tables in
    let told : TellsSingles M f.rows.items c.args.condition (Dropped c.in-Dropped.start c.in-Dropped.kept) =
    subst (TellsSingles M f.rows.items c.args.condition) c.in-Dropped.is (told_at f c.args.condition c.from.result c.index.result.now c.requires.condition c.from.ensures c.index.ensures) in
    singles_of IsDropped M c.args.condition c.args.first c.args.bytes.now c.first_dropped.result (λ b. told.0 b ∙ c.if-start-first.true) c.first_dropped.ensures

pub first_dropped-requires-clause-kept : goal.first_dropped-requires-clause-kept
first_dropped-requires-clause-kept c =
    let f : Flat = c.args.self.now in
    let M : Machine = table_machine f.tables in
    let told : TellsSingles M f.rows.items c.args.condition (Dropped c.in-Dropped.start c.in-Dropped.kept) =
    subst (TellsSingles M f.rows.items c.args.condition) c.in-Dropped.is (told_at f c.args.condition c.from.result c.index.result.now c.requires.condition c.from.ensures c.index.ensures) in
    λ l is. subst (λ s. OthersDrop f.rows.items (256 * s) l) c.if-start-first.true (told.1 l is)
