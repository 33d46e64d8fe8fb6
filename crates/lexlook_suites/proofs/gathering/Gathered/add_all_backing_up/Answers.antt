use Rattle.lexlook_suites.specs.Gathers.{rules_by}
use Rattle.lexlook_suites.proofs.Collected.{adds_none, adds_on}
use Rattle.lexlook_suites.proofs.gathering.Gathered.add_all_backing_up.Goals as goal
use Rattle.lexlook_suites.proofs.gathering.Gathered.add_all_backing_up.Goals.{then-backs_up+then-len-most+in_ok-add_to, else-backs_up}

pub loop-place-init : goal.loop-place-init
loop-place-init c = adds_none (rules_by c.args.machine.now) c.args.dfa.now.parts c.args.self.now c.requires.gathered

pub add_to-requires-clause-gathered : goal.add_to-requires-clause-gathered
add_to-requires-clause-gathered c = c.loop-place.invariant.gathered

pub loop-place-preserved : goal.loop-place-preserved
loop-place-preserved c = elim c.if-backs_up.branch [
  | then-backs_up+then-len-most+in_ok-add_to w ↦ rw w.self-is (adds_on (rules_by c.args.machine.now) c.args.dfa.now.parts c.args.self.now c.loop-place.self w.add_to.new.self c.loop-place.invariant w.in_ok-add_to.ensures)
  | else-backs_up w ↦ rw w.self-is c.loop-place.invariant
]
