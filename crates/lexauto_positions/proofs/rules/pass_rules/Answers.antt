use Rattle.std.proofs.lemmas.Grind.{common_steps}
use Rattle.std.proofs.Common.{rules, ◌≡◌, [], map, arith}
use Rattle.lexauto_positions.specs.Laid.{shape_of}
use Rattle.lexauto_positions.proofs.Passing.{none_passed, owner_within, owner_cursor, owner_front, owner_sized, owner_few, owner_further, owner_passed, all_next, all_left}
use Rattle.lexauto_positions.proofs.rules.pass_rules.Goals as goal

pub loop-at-init : goal.loop-at-init
loop-at-init c =
    let followers : c.new.result.items ≡ [] = search rules in
    let accepted : c.new-2.result.items ≡ [] = search rules in
    rw (followers, accepted) (none_passed (map shape_of c.args.rules.now) c.args.last.now c.requires.cursor)

pub bounds-rules-owner : goal.bounds-rules-owner
bounds-rules-owner c =
    owner_within c.args.rules.now c.args.owners.now c.args.last.now c.loop-at.at c.loop-at.walked.followers.items c.loop-at.walked.accepted.items c.requires.owners c.requires.within c.loop-at.invariant c.loop-at-test.true

pub pass-requires-clause-sized : goal.pass-requires-clause-sized
pass-requires-clause-sized c =
    owner_sized c.args.rules.now c.args.owners.now c.args.last.now c.loop-at.at c.loop-at.walked.followers.items c.loop-at.walked.accepted.items c.requires.owners c.requires.within c.loop-at.invariant c.loop-at-test.true c.index-rules-owner.result c.index-rules-owner.is c.requires.sized

pub pass-requires-clause-cursor : goal.pass-requires-clause-cursor
pass-requires-clause-cursor c =
    owner_cursor c.args.rules.now c.args.owners.now c.args.last.now c.loop-at.at c.loop-at.walked.followers.items c.loop-at.walked.accepted.items c.requires.owners c.requires.within c.loop-at.invariant c.loop-at-test.true

pub pass-requires-clause-few : goal.pass-requires-clause-few
pass-requires-clause-few c =
    let few = owner_few c.args.rules.now c.args.owners.now c.args.last.now c.loop-at.at c.loop-at.walked.followers.items c.loop-at.walked.accepted.items c.requires.owners c.requires.within c.loop-at.invariant c.loop-at-test.true c.index-rules-owner.result c.index-rules-owner.is in
    let most = c.requires.few in
    omega (arith, few, most)

pub pass-requires-clause-front : goal.pass-requires-clause-front
pass-requires-clause-front c =
    owner_front c.args.rules.now c.args.owners.now c.args.last.now c.loop-at.at c.loop-at.walked.followers.items c.loop-at.walked.accepted.items c.requires.owners c.requires.within c.loop-at.invariant c.loop-at-test.true

pub loop-at-preserved : goal.loop-at-preserved
loop-at-preserved c =
    owner_passed c.args.rules.now c.args.owners.now c.args.last.now c.loop-at.at c.loop-at.walked.followers.items c.loop-at.walked.accepted.items c.requires.owners c.requires.within c.loop-at.invariant c.loop-at-test.true c.index-rules-owner.result c.index-rules-owner.is
    c.in_ok-at.at c.pass.new.self.followers.items c.pass.new.self.accepted.items c.in_ok-at.ensures.cursor c.in_ok-at.ensures.front c.in_ok-at.ensures.followers c.in_ok-at.ensures.accepted

pub loop-at-smaller : goal.loop-at-smaller
loop-at-smaller c =
    let more = owner_further c.args.rules.now c.args.owners.now c.args.last.now c.loop-at.at c.loop-at.walked.followers.items c.loop-at.walked.accepted.items c.requires.owners c.requires.within c.loop-at.invariant c.loop-at-test.true c.index-rules-owner.result c.index-rules-owner.is
    c.in_ok-at.at c.in_ok-at.ensures.cursor in
    let low = c.loop-at-test.true in
    omega (arith, more, low)

pub returns : goal.returns
returns c = record {
  followers = all_next (map shape_of c.args.rules.now) c.args.last.now c.loop-at.at c.loop-at.walked.followers.items c.loop-at.walked.accepted.items c.loop-at.invariant c.loop-at-test.false;
  accepted = all_left (map shape_of c.args.rules.now) c.args.last.now c.loop-at.at c.loop-at.walked.followers.items c.loop-at.walked.accepted.items c.loop-at.invariant c.loop-at-test.false;
}

pub bounds-owners-last : goal.bounds-owners-last
bounds-owners-last = grind (arith, common_steps)
