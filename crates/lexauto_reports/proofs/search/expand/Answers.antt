use Rattle.std.proofs.Common.{rules, ◌≡◌, subst}
use Rattle.lexauto_reports.specs.Searching.{words_of, states_of_groups, IsAt}
use Rattle.lexauto_reports.proofs.Searched.{expanded, steps_alike}
use Rattle.lexauto_reports.proofs.search.expand.Goals as goal

pub returns-clause-up_to : goal.returns-clause-up_to
returns-clause-up_to c =
    let p = c.args.dfa.now.parts in
    let words = words_of c.loop-byte.groups in
    let found = states_of_groups c.loop-byte.groups in
    let all : c.loop-byte.byte ≡ 256 = search rules in
    expanded p words found c.loop-byte.places.items c.args.place (subst (λ b. IsAt p words found c.loop-byte.places.items c.args.place b) all c.loop-byte.invariant.here)

pub visit-requires-clause-lead : goal.visit-requires-clause-lead
visit-requires-clause-lead c = (steps_alike c.args.dfa.now.parts c.args.leads.now c.loop-byte.byte c.args.dfa.now.lawful.rows c.requires.leads (search rules)).0

pub visit-requires-clause-alike : goal.visit-requires-clause-alike
visit-requires-clause-alike c = (steps_alike c.args.dfa.now.parts c.args.leads.now c.loop-byte.byte c.args.dfa.now.lawful.rows c.requires.leads (search rules)).1
