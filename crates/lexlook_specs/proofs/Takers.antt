-- Which of the rules that a text fits take it.
use Rattle.std.proofs.Common.{◌≡◌, ◌⊎◌, ◌↔◌, ◌<◌, ◌≤◌, ◌+◌, ℕ, suc, Bool, true, false, List, [], ◌∷◌, length, drop, get_or, Option, Some, None, inl, inr, refl, sym, ap, subst, ◌∙◌, arith}
use Rattle.std.specs.Prelude.{cond, nat_eq}
use Rattle.std.specs.List.{IsAnyAnswer}
use Rattle.lexauto_dfa.proofs.Accepting.{among_get}
use Rattle.std.proofs.lemmas.Bool.{cases_Bool, cases_eq, cond-true, cond-false, eqb-true, eqb-false}
use Rattle.std.proofs.lemmas.List.{drop_more, drop_all}
use Rattle.lex_semantics.specs.Text.{Among, Ascending, flag}
use Rattle.lexlook_specs.specs.Placing.{takers}

among_cond : (b : Bool) (x i : ℕ) (xs : List ℕ) → Among (cond b (x ∷ xs) (x ∷ [])) i ↔ ((i ≡ x) ⊎ ((b ≡ true) × Among xs i))
among_cond true x i xs = (λ a. elim a [ inl e ↦ inl e | inr m ↦ inr (refl, m) ], λ a. elim a [ inl e ↦ inl e | inr m ↦ inr m.1 ])
among_cond false x i xs = (λ a. elim a [ inl e ↦ inl e | inr n ↦ absurd n ], λ a. elim a [ inl e ↦ inl e | inr m ↦ absurd (let e = m.0 in cc) ])

-- of rules that ascend it are those before which each gives the text up
abbrev pub AllGiveUp : List Bool → List ℕ → ℕ → Type 0
AllGiveUp rejects l i = (j : ℕ) → j < i → Among l j → flag rejects j ≡ true

takers_to : (rejects : List Bool) (x : ℕ) (xs : List ℕ) (i : ℕ) → Ascending (x ∷ xs) → Among (takers rejects xs) i ↔ (Among xs i × AllGiveUp rejects xs i)
    → Among (takers rejects (x ∷ xs)) i → Among (x ∷ xs) i × AllGiveUp rejects (x ∷ xs) i
takers_to rejects x xs i up rest a = elim ((among_cond (flag rejects x) x i (takers rejects xs)).0 a) [
  | inl e ↦ (
    inl e,
    λ j low m. elim m [
      | inl same ↦ absurd (omega (arith, e, low, same))
      | inr b ↦ (let lt = up.0 j b in absurd (omega (arith, e, low, lt)))
    ],
  )
  | inr r ↦ (let s = rest.0 r.1 in (
    inr s.0,
    λ j low m. elim m [
      | inl same ↦ subst (λ k. flag rejects k ≡ true) (sym same) r.0
      | inr b ↦ s.1 j low b
    ],
  ))
]

takers_from : (rejects : List Bool) (x : ℕ) (xs : List ℕ) (i : ℕ) → Ascending (x ∷ xs) → Among (takers rejects xs) i ↔ (Among xs i × AllGiveUp rejects xs i)
    → Among (x ∷ xs) i × AllGiveUp rejects (x ∷ xs) i → Among (takers rejects (x ∷ xs)) i
takers_from rejects x xs i up rest (inl e, all) = (among_cond (flag rejects x) x i (takers rejects xs)).1 (inl e)
takers_from rejects x xs i up rest (inr b, all) = (among_cond (flag rejects x) x i (takers rejects xs)).1 (inr (all x (up.0 i b) (inl refl), rest.1 (b, λ j low m. all j low (inr m))))

pub takers_are : (rejects : List Bool) (l : List ℕ) (i : ℕ) → Ascending l → Among (takers rejects l) i ↔ (Among l i × AllGiveUp rejects l i)
takers_are rejects [] i up = (λ a. absurd a, λ a. absurd a.0)
takers_are rejects (x ∷ xs) i up = (let rest = takers_are rejects xs i up.1 in (takers_to rejects x xs i up rest, takers_from rejects x xs i up rest))

pub takers_among : (rejects : List Bool) (l : List ℕ) (i : ℕ) → Among (takers rejects l) i → Among l i
takers_among rejects [] i a = absurd a
takers_among rejects (x ∷ xs) i a = elim ((among_cond (flag rejects x) x i (takers rejects xs)).0 a) [
  | inl e ↦ inl e
  | inr r ↦ inr (takers_among rejects xs i r.1)
]

-- the first of these that has no REJECT
abbrev pub first_kept : List Bool → List ℕ → Option ℕ
first_kept rejects [] = None
first_kept rejects (x ∷ xs) = cond (flag rejects x) (first_kept rejects xs) (Some x)

cond_some : (b : Bool) (o : Option ℕ) (x j : ℕ) → cond b o (Some x) ≡ Some j → ((b ≡ true) × (o ≡ Some j)) ⊎ ((b ≡ false) × (x ≡ j))
cond_some true o x j e = inl (refl, e)
cond_some false o x j e = inr (refl, cc)

pub kept_some : (rejects : List Bool) (l : List ℕ) (j : ℕ) → first_kept rejects l ≡ Some j → Among (takers rejects l) j × (flag rejects j ≡ false)
kept_some rejects [] j e = absurd cc
kept_some rejects (x ∷ xs) j e = elim (cond_some (flag rejects x) (first_kept rejects xs) x j e) [
  | inl r ↦ (let s = kept_some rejects xs j r.1 in ((among_cond (flag rejects x) x j (takers rejects xs)).1 (inr (r.0, s.0)), s.1))
  | inr r ↦ ((among_cond (flag rejects x) x j (takers rejects xs)).1 (inl (sym r.1)), subst (λ k. flag rejects k ≡ false) r.1 r.0)
]

pub kept_only : (rejects : List Bool) (l : List ℕ) (j : ℕ) → Among (takers rejects l) j → flag rejects j ≡ false → first_kept rejects l ≡ Some j
kept_only rejects [] j a f = absurd a
kept_only rejects (x ∷ xs) j a f = elim (cases_Bool (flag rejects x)) [
  | inl t ↦ elim ((among_cond (flag rejects x) x j (takers rejects xs)).0 a) [
    | inl e ↦ absurd (let g : flag rejects j ≡ true = subst (λ k. flag rejects k ≡ true) (sym e) t in cc)
    | inr r ↦ cond-true (flag rejects x) (first_kept rejects xs) (Some x) t ∙ kept_only rejects xs j r.1 f
  ]
  | inr n ↦ elim ((among_cond (flag rejects x) x j (takers rejects xs)).0 a) [
    | inl e ↦ cond-false (flag rejects x) (first_kept rejects xs) (Some x) n ∙ ap Some (sym e)
    | inr r ↦ absurd (let g = r.0 in cc)
  ]
]

pub kept_here : (rejects : List Bool) (l : List ℕ) (i : ℕ) → i < length l → flag rejects (get_or l i 0) ≡ false → first_kept rejects l ≡ first_kept rejects (drop i l) → first_kept rejects l ≡ Some (get_or l i 0)
kept_here rejects l i low f h = h ∙ ap (first_kept rejects) (drop_more l i 0 low) ∙ cond-false (flag rejects (get_or l i 0)) (first_kept rejects (drop (i + 1) l)) (Some (get_or l i 0)) f

pub kept_end : (rejects : List Bool) (l : List ℕ) (i : ℕ) → length l ≤ i → first_kept rejects l ≡ first_kept rejects (drop i l) → first_kept rejects l ≡ None
kept_end rejects l i all h = h ∙ ap (first_kept rejects) (drop_all i l all)

-- where no rule that takes the text keeps it, none does that fits it
pub none_keeps : (rejects : List Bool) (l : List ℕ) → ((j : ℕ) → Among (takers rejects l) j → flag rejects j ≡ false → ⊥) → (i : ℕ) → Among l i → flag rejects i ≡ false → ⊥
none_keeps rejects [] none i a f = absurd a
none_keeps rejects (x ∷ xs) none i a f = elim (cases_Bool (flag rejects x)) [
  | inl t ↦ elim a [
    | inl e ↦ (let g : flag rejects i ≡ true = subst (λ k. flag rejects k ≡ true) (sym e) t in cc)
    | inr b ↦ none_keeps rejects xs (λ j m. none j ((among_cond (flag rejects x) x j (takers rejects xs)).1 (inr (t, m)))) i b f
  ]
  | inr n ↦ none x ((among_cond (flag rejects x) x x (takers rejects xs)).1 (inl refl)) n
]

-- a list has a number or not
pub index_of : (l : List ℕ) (i : ℕ) → Among l i → (k : ℕ) × (k < length l) × (get_or l k 0 ≡ i)
index_of [] i a = absurd a
index_of (x ∷ xs) i (inl e) = (0, (omega arith), sym e)
index_of (x ∷ xs) i (inr b) = (let r = index_of xs i b in let low = r.1 in (suc r.0, (omega (arith, low)), r.2))

pub any_answer : (l : List ℕ) (i : ℕ) (r : Bool) → IsAnyAnswer (λ y b. nat_eq y i ≡ b) l r → (r ≡ true → Among l i) × (r ≡ false → Among l i → ⊥)
any_answer l i true (k, low, h) = (λ t. subst (Among l) (eqb-true (get_or l k 0) i (h 0)) (among_get l k low), λ f a. absurd (let e : true ≡ false = f in cc))
any_answer l i false h = (λ t. absurd (let e : false ≡ true = t in cc), λ f a. (let r = index_of l i a in eqb-false (get_or l r.0 0) i (h r.0 0 (omega arith) r.1) r.2))

pub is_among : (l : List ℕ) (i : ℕ) → Among l i ⊎ (Among l i → ⊥)
is_among [] i = inr (λ a. a)
is_among (x ∷ xs) i = elim (cases_eq i x) [
  | inl e ↦ inl (inl e)
  | inr ne ↦ elim (is_among xs i) [ inl a ↦ inl (inr a) | inr none ↦ inr (λ a. elim a [ inl e ↦ ne e | inr b ↦ none b ]) ]
]
