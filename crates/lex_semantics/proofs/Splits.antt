-- A word that fits is a text and a trail.
use Rattle.std.proofs.Common.{◌≡◌, ℕ, ◌+◌, Bool, List, length, take, drop, Option, Some, None, sym, ◌∙◌, ap, subst, arith}
use Rattle.std.specs.Prelude.{MatchOption}
use Rattle.std.proofs.lemmas.List.{length-append, length-take-le, take-append-drop, drop_all, take_at, drop_at}
use Rattle.lex_semantics.specs.Tree.{Tree, In}
use Rattle.lex_semantics.specs.Positions.{Matches}
use Rattle.lex_semantics.proofs.WordReadings.{match_of, in_of_match}
use Rattle.lex_semantics.specs.Spec.{Spec}
use Rattle.lex_semantics.specs.Fits.{Fits, FitsSplit, InTrail}

pub trail_to : (t : Option Tree) (w : List ℕ) (k : ℕ) → MatchOption t (k ≡ length w) (λ t. Matches t (drop k w)) → InTrail t (drop k w)
trail_to None w k e = drop_all k w (omega (arith, e))
trail_to (Some t) w k h = in_of_match t (drop k w) h

trail_from : (t : Option Tree) (w v : List ℕ) (k : ℕ) → drop k w ≡ v → length w ≡ k + length v → InTrail t v → MatchOption t (k ≡ length w) (λ t. Matches t (drop k w))
trail_from None w v k back size e = (let none : length v ≡ 0 = ap length e in omega (arith, size, none))
trail_from (Some t) w v k back size h = match_of t (drop k w) (subst (In t) (sym back) h)

module _ (S : Spec) (c : ℕ) (line_start : Bool) (w : List ℕ) (i k : ℕ) where
  abbrev pub split_of : Fits S c line_start w i k → FitsSplit S c line_start w i k
  split_of h = record {
    rule = h.rule;
    at = h.at;
    is_active = h.is_active;
    text = take k w;
    trail = drop k w;
    splits = sym (take-append-drop k w);
    length_is = sym (length-take-le k w h.inside);
    not_empty = h.not_empty;
    in_head = in_of_match h.rule.head (take k w) h.in_head;
    in_trail = trail_to h.rule.trail w k h.in_trail;
  }

  pub of_split : FitsSplit S c line_start w i k → Fits S c line_start w i k
  of_split h =
      let size : length w ≡ length h.text + length h.trail = ap length h.splits ∙ length-append h.text h.trail in
      let front : take k w ≡ h.text = ap (take k) h.splits ∙ take_at h.text h.trail k (sym h.length_is) in
      let back : drop k w ≡ h.trail = ap (drop k) h.splits ∙ drop_at h.text h.trail k (sym h.length_is) in
      record {
        rule = h.rule;
        at = h.at;
        is_active = h.is_active;
        not_empty = h.not_empty;
        inside = omega (arith, size, h.length_is);
        in_head = match_of h.rule.head (take k w) (subst (In h.rule.head) (sym front) h.in_head);
        in_trail = trail_from h.rule.trail w h.trail k back (omega (arith, size, h.length_is)) h.in_trail;
      }
