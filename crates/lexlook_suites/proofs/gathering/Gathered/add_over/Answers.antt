use Rattle.std.proofs.Common.{◌∙◌, ◌<◌, ◌++◌, ◌∷◌, [], ap, sym, arith}
use Rattle.lexlook_suites.specs.Gathers.{rules_by}
use Rattle.lexlook_suites.specs.Trees.{state_at}
use Rattle.lexlook_suites.proofs.Collected.{adds_none, edge_added, edge_walked}
use Rattle.lexlook_suites.proofs.Treed.{came, there}
use Rattle.lexlook_suites.proofs.gathering.Gathered.add_over.Goals as goal

pub returns-then-target-eq0-clause-adds : goal.returns-then-target-eq0-clause-adds
returns-then-target-eq0-clause-adds c = adds_none (rules_by c.args.machine.now) c.args.dfa.now.parts c.args.self.now c.requires.gathered

pub returns-then-target-eq0-clause-over : goal.returns-then-target-eq0-clause-over
returns-then-target-eq0-clause-over c = λ first live.
    absurd (live (sym (came c.args.dfa.now.parts c.args.tree.now.steps.items c.args.place c.args.byte c.next-target.result c.index.result.now c.requires.place c.index.ensures c.next-target.ensures.state) ∙ c.if-target-eq0.true))

pub returns-then-is_walked-clause-adds : goal.returns-then-is_walked-clause-adds
returns-then-is_walked-clause-adds c = adds_none (rules_by c.args.machine.now) c.args.dfa.now.parts c.args.self.now c.requires.gathered

pub returns-then-is_walked-clause-over : goal.returns-then-is_walked-clause-over
returns-then-is_walked-clause-over c = λ first live.
    edge_walked (rules_by c.args.machine.now) c.args.dfa.now.parts c.args.self.now _ c.args.byte _ c.next-target.result c.is_walked.result
    (there c.args.tree.now.steps.items c.args.place c.index.result.now c.requires.place c.index.ensures) c.next-target.ensures.state c.is_walked.ensures c.if-is_walked.true

pub returns-clause-over : goal.returns-clause-over
returns-clause-over c =
    let p = c.args.dfa.now.parts in
    let steps = c.args.tree.now.steps.items in
    let small : c.args.byte < 256 = omega arith in
    let t = c.in_ok-text.ensures in
    edge_added (rules_by c.args.machine.now) p c.add.new.self c.args.way.now.text.items c.in_ok-text.text.items t.0 c.args.tree.now.start (state_at steps c.args.place) c.args.byte t.1
    (t.2 ∙ ap (λ l. l ++ t.0 ++ c.args.byte ∷ []) c.as_slice.ensures.value) t.3 small (c.requires.tree c.args.place c.requires.place).known
    (λ none. c.in_ok-add.ensures.text (omega (arith, none, c.len.ensures, c.args.way.now.text.ok.0)))
