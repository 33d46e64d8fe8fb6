use Rattle.std.proofs.Common.{rules, ◌≡◌, ℕ, List, [], length, sym, subst, arith}
use Rattle.lexlook_specs.specs.Matches.{matches_in}
use Rattle.lexlook_specs.specs.Pairing.{IsUpTo}
use Rattle.lexlook_specs.specs.declared.words.overlapping.Overlap.{Overlap}
use Rattle.lexlook_specs.proofs.Pairs.{all_passed, none_yet}
use Rattle.lexlook_specs.proofs.Sharing.{shared_known}
use Rattle.lexlook_specs.proofs.words.overlapping.find_overlaps.Goals as goal

pub loop-rule-init : goal.loop-rule-init
loop-rule-init c =
    let m = matches_in c.args.dfa.now.parts c.args.rejects.now in
    let none : c.new-overlaps.result.items ≡ [] = search rules in
    subst (λ (l : List Overlap). IsUpTo m c.args.most 0 0 l) (sym none) (none_yet m c.args.most)

pub returns : goal.returns
returns c =
    let d = c.args.dfa.now in
    let rejects = c.args.rejects.now in
    let v = c.loop-rule.overlaps.items in
    let m = matches_in d.parts rejects in
    let all : c.loop-rule.rule ≡ length rejects = first_of (search rules, grind arith) in
    all_passed m c.args.most (shared_known d.parts d.lawful rejects c.requires.rules) v (subst (λ (k : ℕ). IsUpTo m c.args.most k 0 v) all c.loop-rule.invariant)
