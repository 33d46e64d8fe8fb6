use Rattle.std.proofs.Common.{◌∙◌, ap, Err}
use Rattle.lex_semantics.specs.Spec.{Spec}
use Rattle.lexspec.specs.Views.{spec_of}
use Rattle.lexauto_dfa.specs.Automata.{states_of}
use Rattle.lexkit.proofs.Refusing.{by_reason}
use Rattle.lexkit.proofs.ready.scan_automaton.Goals as goal

pub returns-in-Err-clause-refused : goal.returns-in-Err-clause-refused
returns-in-Err-clause-refused c =
    by_reason c.args.limits (spec_of c.args.spec.now) c.in-Err.error (λ e. c.in-Err.ensures.too_many_positions (ap Err e)) (λ e. c.in-Err.ensures.too_many_states (ap Err e))

pub returns-then-len-le-FEW_STATES-clause-made : goal.returns-then-len-le-FEW_STATES-clause-made
returns-then-len-le-FEW_STATES-clause-made c =
    let b = c.in-Ok.ensures in
    record {
      within = record { few_positions = b.few_positions; states = states_of c.in-Ok.automaton; subsets = b.states; few_states = b.few_states };
      conditions = b.conditions;
      table = b.table;
    }

pub returns-clause-made : goal.returns-clause-made
returns-clause-made c =
    let S : Spec = spec_of c.args.spec.now in
    let b = c.in-Ok.ensures in
    let m = c.in-Ok-minimise.ensures in
    record {
      within = record { few_positions = b.few_positions; states = states_of c.in-Ok.automaton; subsets = b.states; few_states = b.few_states };
      conditions = m.conditions ∙ b.conditions;
      table = m.table S b.table;
    }
