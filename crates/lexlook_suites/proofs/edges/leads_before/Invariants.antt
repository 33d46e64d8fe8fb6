use Rattle.std.proofs.Common.{◌≡◌, false}
use Rattle.lexauto_dfa.specs.Automata.{next_of}
use Rattle.lexlook_specs.specs.Pictures.{leads_below}
use Rattle.lexlook_suites.proofs.edges.leads_before.Given as goal

abbrev pub invariant-loop-earlier : goal.invariant-loop-earlier
invariant-loop-earlier l = leads_below (next_of l.dfa l.state) l.target l.earlier ≡ false
