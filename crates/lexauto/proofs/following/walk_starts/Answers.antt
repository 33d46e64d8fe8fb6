use Rattle.std.proofs.Common.{rules, ◌≡◌, ℕ, Bool, true, false, List, [], length, map, refl, sym, ap, ◌∙◌}
use Rattle.std.proofs.Math.Path.{fun_ext}
use Rattle.lex_semantics.specs.Spec.{rejects}
use Rattle.lex_semantics.specs.Subsets.{all_positions}
use Rattle.lex_semantics.specs.Text.{flag}
use Rattle.lexspec.specs.Views.{spec_of, rules_in}
use Rattle.lexauto_positions.specs.Laid.{shape_of}
use Rattle.lexauto_positions.specs.RuleFlow.{rules_enter, rules_left, chosen}
use Rattle.lexauto.specs.Sets.{marked, starts_in, lasts_in}
use Rattle.lexauto_positions.specs.declared.rules.LaidRule.{LaidRule}
use Rattle.lexauto_positions.proofs.Passing.{nowhere, none_gone}
use Rattle.lexauto.proofs.StepLemmas.{followers_is, listed_same}
use Rattle.lexauto.proofs.KeyLaws.{none_marked}
use Rattle.lexauto.proofs.following.walk_starts.Goals as goal

none_chosen : (b : Bool) → [] ≡ chosen b []
none_chosen true = refl
none_chosen false = refl

pub returns : goal.returns
returns c =
    let moves = c.args.moves.now in
    let all = rules_in (spec_of moves.spec.now) in
    let own = map shape_of c.deref.result.now in
    let on = flag c.deref-2.result.now in
    let key = c.args.key.now in
    let size : all_positions own ≡ moves.count = ap (λ (rs : List LaidRule). all_positions (map shape_of rs)) c.deref.ensures.value ∙ moves.size in
    let next : (q : ℕ) → rules_enter own on nowhere q 0 0 ≡ rules_enter all on nowhere q 0 0 =
    λ q. ap (λ (rs : List LaidRule). rules_enter (map shape_of rs) on nowhere q 0 0) c.deref.ensures.value ∙ moves.next on nowhere q in
    let here : c.len.result ≡ length moves.rules.items = search rules in
    let known : length moves.rules.items ≡ length all = moves.number in
    let number : length all ≡ c.len.result = sym (here ∙ known) in
    let starts : (i : ℕ) → on i ≡ marked c.len.result (starts_in key) i =
    λ i. ap (λ (m : List Bool). flag m i) c.deref-2.ensures.value ∙ c.in_ok-on.ensures.marks i ∙ ap (λ (ks : List ℕ). marked c.len.result ks i) c.starts_in.ensures in
    let none : (p : ℕ) → nowhere p ≡ marked moves.count (lasts_in key) p = λ p. none_marked moves.count p (lasts_in key) c.requires in
    let empty : c.new.result.items ≡ [] = search rules in
    let no_lasts : nowhere ≡ marked (all_positions all) (lasts_in key) = fun_ext (λ p. none_marked (all_positions all) p (lasts_in key) c.requires) in
    record {
      followers = c.in_ok-followers.ensures
          ∙ listed_same (λ q. rules_enter own on nowhere q 0 0) (λ q. rules_enter all on nowhere q 0 0) (all_positions own) moves.count next size
          ∙ followers_is all moves.count c.len.result key on nowhere number starts none;
      accepted = empty ∙ none_chosen (rejects (spec_of moves.spec.now))
          ∙ ap (chosen (rejects (spec_of moves.spec.now))) (sym (none_gone all) ∙ ap (λ (f : ℕ → Bool). rules_left all f 0 0) no_lasts);
    }
