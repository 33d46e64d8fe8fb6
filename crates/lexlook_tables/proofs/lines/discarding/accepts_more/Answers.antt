use Rattle.std.proofs.Common.{◌≡◌, true, false, length, refl, sym, ◌∙◌, ap}
use Rattle.std.proofs.lemmas.Bool.{eqb-true, eq-eqb}
use Rattle.std.proofs.lemmas.List.{nil_from_length}
use Rattle.lex_semantics.specs.Machine.{Machine}
use Rattle.lexlook_tables.proofs.Exploring.{some_if_here, some_if_goes, no_more_if}
use Rattle.lexlook_tables.proofs.lines.discarding.accepts_more.Goals as goal

pub returns-then-not-is_empty-clause-yes : goal.returns-then-not-is_empty-clause-yes
returns-then-not-is_empty-clause-yes g c = λ _. some_if_here M (g.M.Machine.laws c.args.machine.now) c.args.state (M.accepts c.args.state) refl
    (λ e. no (sym c.if-not-is_empty.true ∙ c.is_empty.ensures ∙ eq-eqb (length c.accepts.result.now) 0 (ap length (c.accepts.ensures ∙ e))))
  where
    M : Machine
    M = g.M.Machine.machine c.args.machine.now

    no : false ≡ true → ⊥
    no e = cc

pub returns-else-not-is_empty-clause-yes : goal.returns-else-not-is_empty-clause-yes
returns-else-not-is_empty-clause-yes g c = λ is. some_if_goes (g.M.Machine.machine c.args.machine.now) (g.M.Machine.laws c.args.machine.now) c.args.state (sym c.goes_on.ensures ∙ is)

pub returns-else-not-is_empty-clause-no : goal.returns-else-not-is_empty-clause-no
returns-else-not-is_empty-clause-no g c = λ is. no_more_if M (g.M.Machine.laws c.args.machine.now) c.args.state
    (sym c.accepts.ensures ∙ nil_from_length c.accepts.result.now (eqb-true (length c.accepts.result.now) 0 (sym c.is_empty.ensures ∙ c.if-not-is_empty.false))) (sym c.goes_on.ensures ∙ is)
  where
    M : Machine
    M = g.M.Machine.machine c.args.machine.now
