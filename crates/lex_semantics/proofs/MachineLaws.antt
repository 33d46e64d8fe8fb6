-- The rules that a machine tells keep the laws, and there are matches in order at each place.
use Rattle.std.proofs.Common.{◌≡◌, ℕ, ◌+◌, ◌≤◌, Bool, true, List, [], ◌∷◌, ◌++◌, length, refl, sym, ◌∙◌, ap, subst, arith}
use mathlib.Core.Logic.{∥∥₁_elim}
use Rattle.std.proofs.Props.{props}
use Rattle.std.proofs.lemmas.List.{length-append}
use Rattle.lex_semantics.specs.Text.{Among, IsText}
use Rattle.lex_semantics.specs.Laws.{Laws}
use Rattle.lex_semantics.specs.Spec.{Cut, Whole, Head, Trail}
use Rattle.lex_semantics.specs.Machine.{Machine, Keeps, walk, state_after, rules_of_machine}
use Rattle.lex_semantics.specs.MachineLaws.{MachineLaws, LeadsToAccept}
use Rattle.lex_semantics.proofs.Cuts.{keeps_one}

pub walk-append : (M : Machine) (s : ℕ) (v w : List ℕ) → walk M s (v ++ w) ≡ walk M (walk M s v) w
walk-append M s [] w = refl
walk-append M s (b ∷ v) w = walk-append M (M.next s b) v w

keeps_some : (cut : Cut) (n k : ℕ) → 1 ≤ n → Keeps cut n k → 1 ≤ k
keeps_some Whole n k some h = omega arith
keeps_some (Head m) n k some h = omega (arith, h.0, h.1)
keeps_some (Trail t) n k some h = h.1

keeps_inside : (cut : Cut) (n k : ℕ) → Keeps cut n k → k ≤ n
keeps_inside Whole n k h = omega arith
keeps_inside (Head m) n k h = omega (arith, h.0, h.2)
keeps_inside (Trail t) n k h = omega (arith, h.0)

text_append : (u v : List ℕ) → IsText u → IsText v → IsText (u ++ v)
text_append [] v h k = k
text_append (b ∷ u) v h k = (h.0, text_append u v h.1 k)

same_bool : (a b : Bool) → IsProp (a ≡ b)
same_bool a b = Prim.hlevel props

pub machine_laws : (M : Machine) → MachineLaws M → Laws (rules_of_machine M)
machine_laws M laws = record {
  some_text = λ c line_start w i k h. keeps_some (M.cut i) (length w) k h.not_empty h.keeps;
  inside = λ c line_start w i k h. keeps_inside (M.cut i) (length w) k h.keeps;
  one_text = λ c line_start w i k l h g. keeps_one (M.cut i) (length w) k l h.keeps g.keeps;
  live_from_full = λ c line_start w u i k text some h.
      (laws.goes_on (state_after M c line_start w)).1 ∣ (u, text, some, i, subst (λ s. Among (M.accepts s) i) (walk-append M (M.start c line_start) w u) h.accepted) ∣₁;
  live_shorter = λ c line_start w u text h. ∥∥₁_elim ((laws.goes_on (state_after M c line_start (w ++ u))).0 h) (same_bool (M.goes_on (state_after M c line_start w)) true) (λ q. shorter c line_start w u text q);
}
  where
    shorter : (c : ℕ) (line_start : Bool) (w u : List ℕ) → IsText u → LeadsToAccept M (state_after M c line_start (w ++ u)) → M.goes_on (state_after M c line_start w) ≡ true
    shorter c line_start w u text (v, more, some, i, among) =
        let size : length (u ++ v) ≡ length u + length v = length-append u v in
        let there : walk M (state_after M c line_start (w ++ u)) v ≡ walk M (state_after M c line_start w) (u ++ v) =
        ap (λ s. walk M s v) (walk-append M (M.start c line_start) w u) ∙ sym (walk-append M (state_after M c line_start w) u v) in
        (laws.goes_on (state_after M c line_start w)).1 ∣ (u ++ v, text_append u v text more, omega arith, i, subst (λ s. Among (M.accepts s) i) there among) ∣₁
