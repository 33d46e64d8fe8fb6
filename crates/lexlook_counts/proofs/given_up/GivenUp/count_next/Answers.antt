use Rattle.std.proofs.Common.{refl, subst, sym}
use Rattle.std.proofs.lemmas.Result.{on_ok_weaker}
use Rattle.lex_semantics.specs.MachineLaws.{NoReject}
use Rattle.lextab_packed.specs.FlatViews.{tables_of}
use Rattle.lextab_packed.specs.Machines.{laws_of, table_machine}
use Rattle.lextab_packed.specs.declared.flat.Flat.{Flat}
use Rattle.lexlook_counts.specs.Descending.{CountsTurn}
use Rattle.lexlook_counts.specs.Looking.{Starts, looker_machine}
use Rattle.lexlook_counts.proofs.Turns.{turn_without}
use Rattle.lexlook_counts.proofs.given_up.GivenUp.count_next.Goals as goal

pub returns-then-not-rejects-clause-counted : goal.returns-then-not-rejects-clause-counted
returns-then-not-rejects-clause-counted c given at holds =
    turn_without (looker_machine c.args.looker.now) (laws_of (tables_of c.args.looker.now.machine))
    (subst (λ (f : Flat). NoReject (table_machine (tables_of f))) c.machine-machine.ensures (c.if-not-rejects.ensures.no refl)) given at c.args.condition c.args.finished c.args.self.now.counts.items

pub returns-in-Some-clause-counted : goal.returns-in-Some-clause-counted
returns-in-Some-clause-counted c =
    on_ok_weaker c.count_from.result
    (λ h given at holds. subst (λ (f : Flat). CountsTurn (table_machine (tables_of f)) given at c.args.condition c.args.finished c.args.self.now.counts.items c.count_from.new.self.counts.items) c.machine-machine.ensures
    (h given at c.args.condition (subst (λ (f : Flat). Starts (table_machine (tables_of f)) given at c.args.condition c.in-Some.turn) (sym c.machine-machine.ensures) (c.in-Some.ensures.starts given at holds))))
    c.count_from.ensures.counted
