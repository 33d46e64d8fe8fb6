use Rattle.std.proofs.Common.{Bool, true, false}
use Rattle.lexlook_specs.proofs.Sharing.{shared_nowhere, shares_is}
use Rattle.lexlook_specs.proofs.words.overlapping.home_in.Goals as goal

pub returns-then-meets_after : goal.returns-then-meets_after
returns-then-meets_after c =
    let d = c.args.dfa.now in
    (shares_is d.parts d.lawful c.args.rejects.now c.args.condition false c.args.text.now c.args.first c.args.second).1 (c.meets_after.ensures.yes c.if-meets_after.true)

pub returns-then-meets_after-2 : goal.returns-then-meets_after-2
returns-then-meets_after-2 c =
    let d = c.args.dfa.now in
    let at = λ (line : Bool). shares_is d.parts d.lawful c.args.rejects.now c.args.condition line c.args.text.now c.args.first c.args.second in
    ((at true).1 (c.meets_after-2.ensures.yes c.if-meets_after-2.true), λ t. c.meets_after.ensures.no c.if-meets_after.false ((at false).0 t))

pub returns : goal.returns
returns c =
    let d = c.args.dfa.now in
    shared_nowhere d.parts d.lawful c.args.rejects.now c.args.condition c.args.text.now c.args.first c.args.second (c.meets_after.ensures.no c.if-meets_after.false) (c.meets_after-2.ensures.no c.if-meets_after-2.false)
