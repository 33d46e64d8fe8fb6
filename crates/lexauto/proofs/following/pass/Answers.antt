use Rattle.std.proofs.Common.{◌≡◌, ◌<◌, ℕ, Bool, List, length, map, refl, ap, ◌∙◌, arith}
use Rattle.std.specs.Prelude.{slice_index}
use Rattle.lex_semantics.specs.Active.{contains}
use Rattle.lex_semantics.specs.Subsets.{all_positions}
use Rattle.lexspec.specs.Views.{spec_of, rules_in}
use Rattle.lexauto_positions.specs.Laid.{shape_of}
use Rattle.lexauto_positions.specs.RuleFlow.{rules_enter, rules_left, chosen}
use Rattle.lexauto.specs.Sets.{marked, lasts_in}
use Rattle.lexauto_positions.specs.declared.owners.Owner.{Owner}
use Rattle.lexauto_positions.specs.declared.rules.LaidRule.{LaidRule}
use Rattle.lexauto_positions.proofs.Passing.{nowhere}
use Rattle.lexauto.proofs.StepLemmas.{followers_is, listed_same}
use Rattle.lexauto.proofs.KeyLaws.{below_marked, left_is, none_marked}
use Rattle.lexauto.proofs.following.pass.Goals as goal

pub pass_rules-requires-clause-within : goal.pass_rules-requires-clause-within
pass_rules-requires-clause-within c = λ j low.
    let moves = c.args.moves.now in
    let same : (p : ℕ) → contains c.args.last.now p ≡ marked moves.count (lasts_in c.args.key.now) p =
    c.requires.same in
    let below : slice_index c.args.last.now j < moves.count = below_marked moves.count c.args.last.now (lasts_in c.args.key.now) same j low in
    let size : length c.deref-2.result.now ≡ moves.count = ap (λ (os : List Owner). length os) c.deref-2.ensures.value ∙ moves.owned in
    omega (arith, below, size)

pub returns : goal.returns
returns c =
    let moves = c.args.moves.now in
    let all = rules_in (spec_of moves.spec.now) in
    let own = map shape_of c.deref.result.now in
    let last = contains c.args.last.now in
    let key = c.args.key.now in
    let same : (p : ℕ) → last p ≡ marked moves.count (lasts_in key) p =
    c.requires.same in
    let size : all_positions own ≡ moves.count = ap (λ (rs : List LaidRule). all_positions (map shape_of rs)) c.deref.ensures.value ∙ moves.size in
    let next : (q : ℕ) → rules_enter own nowhere last q 0 0 ≡ rules_enter all nowhere last q 0 0 =
    λ q. ap (λ (rs : List LaidRule). rules_enter (map shape_of rs) nowhere last q 0 0) c.deref.ensures.value ∙ moves.next nowhere last q in
    let gone : rules_left own last 0 0 ≡ rules_left all last 0 0 =
    ap (λ (rs : List LaidRule). rules_left (map shape_of rs) last 0 0) c.deref.ensures.value ∙ moves.left last in
    let left : List ℕ = rules_left all (marked (all_positions all) (lasts_in key)) 0 0 in
    record {
      followers = c.choose.ensures.followers ∙ c.in_ok-walked.ensures.followers
          ∙ listed_same (λ q. rules_enter own nowhere last q 0 0) (λ q. rules_enter all nowhere last q 0 0) (all_positions own) moves.count next size
          ∙ followers_is all moves.count (length all) key nowhere last refl (λ i. none_marked (length all) i _ c.requires.starts) same;
      accepted = c.choose.ensures.accepted
          ∙ ap (chosen moves.accepts_all) (c.in_ok-walked.ensures.accepted ∙ left_is own all last moves.count (lasts_in key) gone same moves.within)
          ∙ ap (λ (b : Bool). chosen b left) moves.whole;
    }
