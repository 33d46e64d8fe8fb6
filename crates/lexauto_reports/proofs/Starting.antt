-- The starts of a search.
use Rattle.std.proofs.Common.{◌≡◌, ◌⊎◌, ◌↔◌, ◌<◌, ◌+◌, ◌*◌, ℕ, Bool, true, false, List, [], ◌∷◌, ◌++◌, length, get_or, set, take, Option, Some, None, inl, inr, sym, ap, ◌∙◌, subst, arith}
use Rattle.std.proofs.lemmas.Bool.{cases_eq}
use Rattle.std.proofs.lemmas.List.{take_more, get_or-set_same, get_or-set_other}
use Rattle.lex_semantics.specs.Text.{Among}
use Rattle.lexauto_dfa.specs.Parts.{conditions, states, start}
use Rattle.lexauto_dfa.specs.Invariant.{IsAutomaton}
use Rattle.lexauto_dfa.specs.declared.dfa.Parts.{Parts}
use Rattle.lexauto_reports.specs.Counting.{IsStartBelow, IsStart}
use Rattle.lexauto_reports.specs.Searching.{place_of}
use Rattle.lexauto_dfa.proofs.Accepting.{among_push, among_get}

pub starts_more : (p : Parts) (n a b : ℕ) (old new : List ℕ) → ((x : ℕ) → Among old x ↔ IsStartBelow p n x) → a ≡ 3 * start p n false → b ≡ 3 * start p n true
    → new ≡ (old ++ a ∷ []) ++ b ∷ [] → (x : ℕ) → Among new x ↔ IsStartBelow p (n + 1) x
starts_more p n a b old new h ea eb e x = (λ m. to (subst (λ l. Among l x) e m), λ s. subst (λ l. Among l x) (sym e) (from s))
  where
    to : Among ((old ++ a ∷ []) ++ b ∷ []) x → IsStartBelow p (n + 1) x
    to m = elim ((among_push (old ++ a ∷ []) b x).0 m) [
      | inl l ↦ elim ((among_push old a x).0 l) [
        | inl o ↦ (let s = (h x).0 o in let lt = s.2 in (s.0, s.1, omega (arith, lt), s.3))
        | inr s ↦ (n, false, omega arith, s ∙ ea)
      ]
      | inr s ↦ (n, true, omega arith, s ∙ eb)
    ]

    here : (c : ℕ) (line_start : Bool) → c ≡ n → x ≡ 3 * start p c line_start → Among ((old ++ a ∷ []) ++ b ∷ []) x
    here c true s f = (among_push (old ++ a ∷ []) b x).1 (inr (f ∙ ap (λ k. 3 * start p k true) s ∙ sym eb))
    here c false s f = (among_push (old ++ a ∷ []) b x).1 (inl ((among_push old a x).1 (inr (f ∙ ap (λ k. 3 * start p k false) s ∙ sym ea))))

    from : IsStartBelow p (n + 1) x → Among ((old ++ a ∷ []) ++ b ∷ []) x
    from (c, line_start, lt, f) = elim (cases_eq c n) [
      | inl s ↦ here c line_start s f
      | inr ne ↦ (among_push (old ++ a ∷ []) b x).1 (inl ((among_push old a x).1 (inl ((h x).1 (c, line_start, omega (arith, lt, ne), f)))))
    ]

start_known : (p : Parts) → IsAutomaton p → (c : ℕ) (line_start : Bool) → c < conditions p → start p c line_start < states p
start_known p a c true h = a.lines_known c (let l = a.lines in omega (arith, h, l))
start_known p a c false h = a.starts_known c h

pub starts_known : (p : Parts) → IsAutomaton p → (x : ℕ) → IsStart p x → x < 3 * states p
starts_known p a x (c, line_start, lt, e) = let k = start_known p a c line_start lt in omega (arith, k, e)

-- one state more has the first place
pub put_more : (old places : List (Option ℕ)) (states : List ℕ) (i : ℕ) → i < length states → get_or states i 0 < length places
    → ((x : ℕ) → Among (take i states) x → place_of places x ≡ Some 0)
    → (x : ℕ) → Among (take (i + 1) states) x → place_of (set places (get_or states i 0) (Some 0)) x ≡ Some 0
put_more old places states i lt room h x m = elim (cases_eq x (get_or states i 0)) [
  | inl s ↦ here s
  | inr ne ↦ elim ((among_push (take i states) (get_or states i 0) x).0 (subst (λ l. Among l x) (take_more states i 0 lt) m)) [
    | inl o ↦ get_or-set_other places (get_or states i 0) x (Some 0) None ne ∙ h x o
    | inr s ↦ here s
  ]
]
  where
    here : x ≡ get_or states i 0 → place_of (set places (get_or states i 0) (Some 0)) x ≡ Some 0
    here s = ap (λ z. place_of (set places (get_or states i 0) (Some 0)) z) s ∙ get_or-set_same places (get_or states i 0) (Some 0) None room

same_some : (i j : ℕ) → Some i ≡ Some j → i ≡ j
same_some i j e = cc

pub put_only : (old places : List (Option ℕ)) (states : List ℕ) (i : ℕ) → i < length states → get_or states i 0 < length places
    → ((x j : ℕ) → place_of places x ≡ Some j → (place_of old x ≡ Some j) ⊎ ((j ≡ 0) × Among states x))
    → (x j : ℕ) → place_of (set places (get_or states i 0) (Some 0)) x ≡ Some j → (place_of old x ≡ Some j) ⊎ ((j ≡ 0) × Among states x)
put_only old places states i lt room h x j e = elim (cases_eq x (get_or states i 0)) [
  | inl s ↦
      inr (
        same_some j 0 (sym e ∙ ap (λ z. place_of (set places (get_or states i 0) (Some 0)) z) s ∙ get_or-set_same places (get_or states i 0) (Some 0) None room),
        subst (Among states) (sym s) (among_get states i lt),
      )
  | inr ne ↦ h x j (sym (get_or-set_other places (get_or states i 0) x (Some 0) None ne) ∙ e)
]
