use Rattle.std.proofs.Common.{ℕ, List, subst, sym}
use Rattle.lexauto_dfa.specs.Alike.{moves, AreLeads}
use Rattle.lexauto_dfa.proofs.Leads.{lead_heads}
use Rattle.lextab.proofs.Leads.{class_map}
use Rattle.lextab.proofs.classes.classes_of.Goals as goal

pub numbered-requires-clause-heads : goal.numbered-requires-clause-heads
numbered-requires-clause-heads c = lead_heads c.args.states (moves c.args.next.now) c.deref.result.now
    (subst (λ (l : List ℕ). AreLeads c.args.states (moves c.args.next.now) l) (sym c.deref.ensures.value) c.in_ok-lead.ensures.leads)

pub returns-clause-map : goal.returns-clause-map
returns-clause-map c = class_map c.args.states (moves c.args.next.now) c.deref.result.now c.in_ok-classes.classes.class_of.items c.in_ok-classes.classes.heads.items
    (subst (λ (l : List ℕ). AreLeads c.args.states (moves c.args.next.now) l) (sym c.deref.ensures.value) c.in_ok-lead.ensures.leads) c.in_ok-classes.ensures
