use Rattle.std.proofs.Common.{◌∙◌, sym}
use Rattle.std.proofs.lemmas.Bool.{eq-eqb}
use Rattle.lexauto_dfa.specs.Automata.{next_of}
use Rattle.lexlook_suites.proofs.Edged.{leads_later}
use Rattle.lexlook_suites.proofs.edges.leads_before.Goals as goal

pub returns-then-next-target : goal.returns-then-next-target
returns-then-next-target c =
    sym (leads_later (next_of c.args.dfa.now c.args.state) c.args.target c.args.byte c.loop-earlier.earlier c.loop-earlier-test.true (eq-eqb _ _ (sym c.next.ensures.state ∙ c.if-next-target.true)))
