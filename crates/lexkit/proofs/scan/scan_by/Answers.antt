use Rattle.std.proofs.Common.{◌-◌, sym, subst}
use Rattle.std.specs.Prelude.{nat_lt}
use Rattle.lex_semantics.specs.Spec.{Spec}
use Rattle.lex_semantics.specs.TableFor.{TableFor}
use Rattle.lexspec.specs.Views.{spec_of}
use Rattle.lexspec.proofs.TestLaws.{spec_is_sound}
use Rattle.lextab_packed.specs.FlatViews.{tables_of}
use Rattle.lextab_packed.specs.Machines.{laws_of}
use Rattle.lexkit.proofs.Carried.{came_to, stopped_at}
use Rattle.lexkit.proofs.Refusing.{told_of}
use Rattle.lexkit.proofs.scan.scan_by.Goals as goal

pub returns-in-Err-clause-told : goal.returns-in-Err-clause-told
returns-in-Err-clause-told g c = told_of g.S.Source.gave g.K.Sink.wrote c.args.source.now c.args.sink.now (nat_lt (g.S.Source.ends c.args.source.now) (g.S.Source.ends c.args.source.now))
    (g.S.Source.failures c.args.source.now - g.S.Source.failures c.args.source.now) c.args.limits (spec_of c.args.spec.now) c.in-Err.error c.in-Err.ensures.refused

pub returns-in-Err-run_table-clause-told : goal.returns-in-Err-run_table-clause-told
returns-in-Err-run_table-clause-told g c =
    let S : Spec = spec_of c.args.spec.now in
    let made = c.in-Ok.ensures.made in
    let h = c.in-Err-run_table.ensures.ran in
    stopped_at _ _ _ _ _ _ _ _ _ _ c.args.limits S (spec_is_sound S c.args.spec.now.sound) made.within
    _ (laws_of (tables_of c.in-Ok-into_flat.machine)) (subst (λ M. TableFor M S) (sym c.in-Ok-into_flat.ensures) made.table) h.0 h.1 h.2 h.3 h.5 _ h.4

pub returns-clause-told : goal.returns-clause-told
returns-clause-told g c =
    let S : Spec = spec_of c.args.spec.now in
    let made = c.in-Ok.ensures.made in
    let h = c.in-Ok-run_table.ensures.ran in
    came_to _ _ _ _ _ _ _ _ _ _ c.args.limits S (spec_is_sound S c.args.spec.now.sound) made.within
    _ (laws_of (tables_of c.in-Ok-into_flat.machine)) (subst (λ M. TableFor M S) (sym c.in-Ok-into_flat.ensures) made.table) h.0 h.1 h.2 h.3 h.5 _ h.4
