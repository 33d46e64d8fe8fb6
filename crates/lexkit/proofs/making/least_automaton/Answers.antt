use Rattle.std.proofs.Common.{◌≤◌, ◌∙◌, ap, sym, subst, Err}
use Rattle.lex_semantics.specs.Spec.{Spec}
use Rattle.lex_semantics.specs.Subsets.{HasSubsets}
use Rattle.lexspec.specs.Views.{spec_of}
use Rattle.lexkit.proofs.Refusing.{by_reason}
use Rattle.lexkit.proofs.making.least_automaton.Goals as goal

pub returns-in-Err-clause-refused : goal.returns-in-Err-clause-refused
returns-in-Err-clause-refused c =
    by_reason c.args.limits (spec_of c.args.spec.now) c.in-Err.error (λ e. c.in-Err.ensures.too_many_positions (ap Err e)) (λ e. c.in-Err.ensures.too_many_states (ap Err e))

pub returns-clause-made : goal.returns-clause-made
returns-clause-made c =
    let S : Spec = spec_of c.args.spec.now in
    let b = c.in-Ok.ensures in
    let m = c.in-Ok-minimise.ensures in
    record {
      few_positions = b.few_positions;
      subsets_are = subst (λ n. HasSubsets S n) (sym c.len.ensures.states) b.states;
      few_states = subst (λ n. n ≤ c.args.limits.states) (sym c.len.ensures.states) b.few_states;
      conditions = m.conditions ∙ b.conditions;
      table = m.table S b.table;
      laws = m.laws S b.laws;
      least = m.least;
      numbered = m.numbered;
    }
