-- The word and the rule determine the text, and the cut keeps it.
use Rattle.std.proofs.Common.{◌≡◌, ℕ, ◌+◌, ◌≤◌, Bool, List, [], ◌∷◌, ◌++◌, length, Option, Some, None, sym, ◌∙◌, ap, subst, arith}
use Rattle.std.specs.Prelude.{slice_get}
use Rattle.std.proofs.lemmas.List.{length-append, append_assoc}
use Rattle.lex_semantics.proofs.Splits.{split_of}
use Rattle.lex_semantics.proofs.WordReadings.{match_of, in_of_match}
use Rattle.lex_semantics.specs.Text.{IsText}
use Rattle.lex_semantics.specs.Limits.{max_fixed_length}
use Rattle.lex_semantics.specs.Tree.{Tree, In}
use Rattle.lex_semantics.specs.Shapes.{HasLengths}
use Rattle.lex_semantics.specs.Spec.{Spec, Rule, Cut, Whole, Head, Trail}
use Rattle.lex_semantics.specs.Rules.{rules_of}
use Rattle.lex_semantics.specs.Laws.{Laws}
use Rattle.lex_semantics.specs.Machine.{Keeps}
use Rattle.lex_semantics.specs.Sound.{HasFixed, IsCutOf, IsSound}
use Rattle.lex_semantics.specs.Fits.{InTrail, Fits}

pub same_rule : (S : Spec) (i : ℕ) (q r : Rule) → slice_get S.rules i ≡ Some q → slice_get S.rules i ≡ Some r → q ≡ r
same_rule S i q r h k = cc

fixed_is : (t : Tree) (n : ℕ) (w : List ℕ) → HasFixed t n → In t w → length w ≡ n
fixed_is t n w h word = h.1 w (match_of t w word)

-- The lengths of a tree whose words have one length, and the converse.

pub fixed_lengths : (t : Tree) (n : ℕ) → HasFixed t n → HasLengths (In t) n (Some n)
fixed_lengths t n (some, each, few) = record {
  shortest = (some.0, in_of_match t some.0 some.1, each some.0 some.1);
  none_shorter = λ w h. (let e : length w ≡ n = each w (match_of t w h) in omega (arith, e));
  longest = ((some.0, in_of_match t some.0 some.1, each some.0 some.1), λ w h. (let e : length w ≡ n = each w (match_of t w h) in omega (arith, e)));
}

pub lengths_fixed : (t : Tree) (n : ℕ) → HasLengths (In t) n (Some n) → n ≤ max_fixed_length → HasFixed t n
lengths_fixed t n h few = (
  (h.shortest.0, match_of t h.shortest.0 h.shortest.1),
  λ w match. (let word = in_of_match t w match in let low : n ≤ length w = h.none_shorter w word in let high : length w ≤ n = h.longest.1 w word in omega (arith, low, high)),
  few,
)

keeps_from : (cut : Cut) (head : Tree) (trail : Option Tree) (u v : List ℕ) (n k : ℕ) → IsCutOf head trail cut → In head u → InTrail trail v → n ≡ length u + length v → k ≡ length u → 1 ≤ k → Keeps cut n k
keeps_from cut head None u v n k fits h t size is some = let z : length v ≡ 0 = ap length t in subst (λ d. Keeps d n k) (sym fits) (omega arith)
keeps_from Whole head (Some q) u v n k fits h t size is some = absurd fits
keeps_from (Head m) head (Some q) u v n k fits h t size is some = let e : length u ≡ m = fixed_is head m u fits h in (omega arith, omega arith, omega arith)
keeps_from (Trail m) head (Some q) u v n k fits h t size is some = let e : length v ≡ m = fixed_is q m v fits.1 t in (omega arith, some)

-- The cut keeps the text.
pub cut_keeps : (S : Spec) (sound : IsSound S) (c : ℕ) (line_start : Bool) (w : List ℕ) (i k : ℕ) (r : Rule) → slice_get S.rules i ≡ Some r → Fits S c line_start w i k → Keeps r.cut (length w) k
cut_keeps S sound c line_start w i k r at fits =
    let h = split_of S c line_start w i k fits in
    let size : length w ≡ length h.text + length h.trail = ap length h.splits ∙ length-append h.text h.trail in
    let same : h.rule ≡ r = same_rule S i h.rule r h.at at in
    subst (λ (q : Rule). Keeps q.cut (length w) k) same
    (keeps_from h.rule.cut h.rule.head h.rule.trail h.text h.trail (length w) k (sound.rules i h.rule h.at).cut h.in_head h.in_trail size h.length_is h.not_empty)

pub keeps_one : (cut : Cut) (n k l : ℕ) → Keeps cut n k → Keeps cut n l → k ≡ l
keeps_one Whole n k l h g = h ∙ sym g
keeps_one (Head m) n k l h g = h.0 ∙ sym g.0
keeps_one (Trail m) n k l h g = omega arith

pub one_text_of : (S : Spec) (sound : IsSound S) (c : ℕ) (line_start : Bool) (w : List ℕ) (i k l : ℕ) → Fits S c line_start w i k → Fits S c line_start w i l → k ≡ l
one_text_of S sound c line_start w i k l h g = keeps_one h.rule.cut (length w) k l (cut_keeps S sound c line_start w i k h.rule h.at h) (cut_keeps S sound c line_start w i l h.rule h.at g)

-- The rules of a specification keep the laws.
pub laws_of : (S : Spec) → IsSound S → Laws (rules_of S)
laws_of S sound = record {
  some_text = λ c line_start w i k h. h.not_empty;
  inside = λ c line_start w i k h. h.inside;
  one_text = λ c line_start w i k l h g. one_text_of S sound c line_start w i k l h g;
  live_from_full = λ c line_start w u i k text some h. (u, text, some, i, k, h);
  live_shorter = λ c line_start w u text h. (u ++ h.0, append_text u h.0 text h.1, longer u h.0 h.2, h.3, h.4, subst (λ z. Fits S c line_start z h.3 h.4) (append_assoc w u h.0) h.5);
}
  where
    append_text : (u v : List ℕ) → IsText u → IsText v → IsText (u ++ v)
    append_text [] v h k = k
    append_text (b ∷ u) v h k = (h.0, append_text u v h.1 k)

    longer : (u v : List ℕ) → 1 ≤ length v → 1 ≤ length (u ++ v)
    longer u v h = let e : length (u ++ v) ≡ length u + length v = length-append u v in omega arith
