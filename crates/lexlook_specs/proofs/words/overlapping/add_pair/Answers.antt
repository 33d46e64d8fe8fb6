use Rattle.std.proofs.Common.{rules, ◌<◌, ◌≤◌, ◌+◌, List, length, sym, subst, arith}
use Rattle.lexlook_specs.specs.Matches.{matches_in}
use Rattle.lexlook_specs.specs.Pairing.{IsUpTo}
use Rattle.lexlook_specs.specs.declared.words.overlapping.Overlap.{Overlap}
use Rattle.lexlook_specs.proofs.Pairs.{pair_left, pair_pushed}
use Rattle.lexlook_specs.proofs.words.overlapping.add_pair.Goals as goal

pub returns-in_ok-push : goal.returns-in_ok-push
returns-in_ok-push c =
    let m = matches_in c.args.dfa.now.parts c.args.rejects.now in
    let v = c.args.overlaps.now.items in
    let x = c.in_ok-overlap_of.field-0 in
    let told = c.in_ok-overlap_of.ensures in
    let room : length v < c.args.most = first_of (search rules, grind arith) in
    subst (λ (l : List Overlap). IsUpTo m c.args.most c.args.first (c.args.second + 1) l) (sym c.in_ok-push.ensures.items)
    (pair_pushed m c.args.most c.args.first c.args.second v x room told.first told.second told.overlap c.requires.before)

pub returns-else-len-most : goal.returns-else-len-most
returns-else-len-most c =
    let v = c.args.overlaps.now.items in
    let full : c.args.most ≤ length v = first_of (search rules, grind arith) in
    pair_left (matches_in c.args.dfa.now.parts c.args.rejects.now) c.args.most c.args.first c.args.second v full c.requires.before
