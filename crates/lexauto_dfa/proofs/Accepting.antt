-- Flags of rules, and the rules that an automaton accepts.
use Rattle.std.proofs.Common.{◌≡◌, ◌≢◌, ◌⊎◌, ◌↔◌, ◌<◌, ◌+◌, ℕ, zero, suc, Bool, true, false, List, [], ◌∷◌, ◌++◌, length, get_or, set, take, drop, inl, inr, refl, sym, ap, subst, ◌∙◌, arith}
use Rattle.std.proofs.lemmas.Bool.{cases_Bool, cases_lt, cases_eq}
use Rattle.std.proofs.lemmas.List.{take_at, take_more, get_or-set_same, get_or-set_other}
use Rattle.lex_semantics.specs.Text.{Among, Ascending, flag}
use Rattle.lex_semantics.proofs.Fronts.{among_left, among_right, among_append}
use Rattle.lexauto_dfa.specs.Automata.{accepts_of}
use Rattle.lexauto_dfa.specs.Accepted.{Accepts, AcceptsBelow}
use Rattle.lexauto_dfa.specs.declared.dfa.Dfa.{Dfa}

pub among_push : {X : Type 0} (xs : List X) (y x : X) → Among (xs ++ y ∷ []) x ↔ (Among xs x ⊎ (x ≡ y))
among_push {X} xs y x = (to, from)
  where
    to : Among (xs ++ y ∷ []) x → Among xs x ⊎ (x ≡ y)
    to a = elim (among_append xs (y ∷ []) x a) [ inl b ↦ inl b | inr b ↦ elim b [ inl e ↦ inr e | inr n ↦ absurd n ] ]

    from : Among xs x ⊎ (x ≡ y) → Among (xs ++ y ∷ []) x
    from (inl a) = among_left xs (y ∷ []) x a
    from (inr e) = among_right xs (y ∷ []) x (inl e)

pub ascending_push : (xs : List ℕ) (y : ℕ) → Ascending xs → ((x : ℕ) → Among xs x → x < y) → Ascending (xs ++ y ∷ [])
ascending_push [] y a low = ((λ j n. absurd n), tt)
ascending_push (x ∷ xs) y a low =
    ((λ j b. elim ((among_push xs y j).0 b) [ inl c ↦ a.0 j c | inr e ↦ subst (λ k. x < k) (sym e) (low x (inl refl)) ]), ascending_push xs y a.1 (λ z b. low z (inr b)))

pub not_both : (b : Bool) → b ≡ true → b ≡ false → ⊥
not_both b t f = absurd cc

-- one flag more is set
pub set_more : (old flags : List Bool) (rules : List ℕ) (i : ℕ) → i < length rules → get_or rules i 0 < length flags
    → ((k : ℕ) → (flag flags k ≡ true) ↔ ((flag old k ≡ true) ⊎ Among (take i rules) k))
    → (k : ℕ) → (flag (set flags (get_or rules i 0) true) k ≡ true) ↔ ((flag old k ≡ true) ⊎ Among (take (i + 1) rules) k)
set_more old flags rules i lt known h k = (to, from)
  where
    y : ℕ
    y = get_or rules i 0

    more : take (i + 1) rules ≡ take i rules ++ y ∷ []
    more = take_more rules i 0 lt

    to : flag (set flags y true) k ≡ true → (flag old k ≡ true) ⊎ Among (take (i + 1) rules) k
    to e = elim (cases_eq k y) [
      | inl same ↦ inr (subst (λ l. Among l k) (sym more) ((among_push (take i rules) y k).1 (inr same)))
      | inr other ↦ elim ((h k).0 (sym (get_or-set_other flags y k true false other) ∙ e)) [
        | inl o ↦ inl o
        | inr a ↦ inr (subst (λ l. Among l k) (sym more) ((among_push (take i rules) y k).1 (inl a)))
      ]
    ]

    at : (k ≡ y) ⊎ (k ≢ y) → flag flags k ≡ true → flag (set flags y true) k ≡ true
    at (inl same) e = ap (λ j. flag (set flags y true) j) same ∙ get_or-set_same flags y true false known
    at (inr other) e = get_or-set_other flags y k true false other ∙ e

    from : (flag old k ≡ true) ⊎ Among (take (i + 1) rules) k → flag (set flags y true) k ≡ true
    from (inl o) = at (cases_eq k y) ((h k).1 (inl o))
    from (inr a) = elim ((among_push (take i rules) y k).0 (subst (λ l. Among l k) more a)) [
      | inl b ↦ at (cases_eq k y) ((h k).1 (inr b))
      | inr same ↦ ap (λ j. flag (set flags y true) j) same ∙ get_or-set_same flags y true false known
    ]

pub among_get : (xs : List ℕ) (i : ℕ) → i < length xs → Among xs (get_or xs i 0)
among_get [] i h = absurd (omega arith)
among_get (x ∷ xs) zero h = inl refl
among_get (x ∷ xs) (suc i) h = inr (among_get xs i (omega arith))

-- whether the place i, the next one, is not set
pub unset_more : (flags : List Bool) (places : List ℕ) (i : ℕ) → flag flags i ≡ false
    → ((k : ℕ) → Among places k ↔ ((k < i) × (flag flags k ≡ false)))
    → (k : ℕ) → Among (places ++ i ∷ []) k ↔ ((k < i + 1) × (flag flags k ≡ false))
unset_more flags places i e h k = (to, from)
  where
    to : Among (places ++ i ∷ []) k → (k < i + 1) × (flag flags k ≡ false)
    to a = elim ((among_push places i k).0 a) [
      | inl b ↦ (let r = ((h k).0 b).0 in omega (arith, r), ((h k).0 b).1)
      | inr same ↦ (omega (arith, same), ap (λ j. flag flags j) same ∙ e)
    ]

    from : (k < i + 1) × (flag flags k ≡ false) → Among (places ++ i ∷ []) k
    from (lt, f) = elim (cases_lt k i) [
      | inl low ↦ (among_push places i k).1 (inl ((h k).1 (low, f)))
      | inr high ↦ (among_push places i k).1 (inr (omega (arith, lt, high)))
    ]

pub unset_not : (flags : List Bool) (places : List ℕ) (i : ℕ) → flag flags i ≡ true
    → ((k : ℕ) → Among places k ↔ ((k < i) × (flag flags k ≡ false)))
    → (k : ℕ) → Among places k ↔ ((k < i + 1) × (flag flags k ≡ false))
unset_not flags places i e h k = (to, from)
  where
    to : Among places k → (k < i + 1) × (flag flags k ≡ false)
    to a = (let r = ((h k).0 a).0 in omega (arith, r), ((h k).0 a).1)

    from : (k < i + 1) × (flag flags k ≡ false) → Among places k
    from (lt, f) = elim (cases_lt k i) [
      | inl low ↦ (h k).1 (low, f)
      | inr high ↦ absurd (not_both (flag flags i) e (ap (λ j. flag flags j) (let s : i ≡ k = omega (arith, lt, high) in s) ∙ f))
    ]

-- a slice of a whole list is put back
pub put_back : {X : Type 0} (n : ℕ) (new old : List X) → length new ≡ n → length old ≡ n → take n (new ++ drop (length new) old) ≡ new
put_back n new old e f = take_at new (drop (length new) old) n e

-- a rule more that the next state accepts
pub accepts_more : (d : Dfa) (n : ℕ) (rules : List ℕ) (old flags : List Bool) → rules ≡ accepts_of d n
    → ((i : ℕ) → (flag old i ≡ true) ↔ AcceptsBelow d n i)
    → ((i : ℕ) → (flag flags i ≡ true) ↔ ((flag old i ≡ true) ⊎ Among rules i))
    → (i : ℕ) → (flag flags i ≡ true) ↔ AcceptsBelow d (n + 1) i
accepts_more d n rules old flags e before now i = (to, from)
  where
    to : flag flags i ≡ true → AcceptsBelow d (n + 1) i
    to h = elim ((now i).0 h) [
      | inl o ↦ (let b = (before i).0 o in let lt = b.1 in (b.0, omega (arith, lt), b.2))
      | inr a ↦ (n, omega arith, subst (λ l. Among l i) e a)
    ]

    from : AcceptsBelow d (n + 1) i → flag flags i ≡ true
    from (s, lt, a) = elim (cases_eq s n) [
      | inl same ↦ (now i).1 (inr (subst (λ l. Among l i) (ap (accepts_of d) same ∙ sym e) a))
      | inr other ↦ (now i).1 (inl ((before i).1 (s, omega (arith, lt, other), a)))
    ]

-- the rules whose flags are not set are those that no state accepts
pub unaccepted_by_flag : (d : Dfa) (rules : ℕ) (flags : List Bool) → length flags ≡ rules
    → ((i : ℕ) → (flag flags i ≡ true) ↔ Accepts d i)
    → (i : ℕ) → ((i < length flags) × (flag flags i ≡ false)) ↔ ((i < rules) × (Accepts d i → ⊥))
unaccepted_by_flag d rules flags len h i = (to, from)
  where
    to : (i < length flags) × (flag flags i ≡ false) → (i < rules) × (Accepts d i → ⊥)
    to (lt, f) = (omega (arith, lt, len), (λ a. not_both (flag flags i) ((h i).1 a) f))

    from : (i < rules) × (Accepts d i → ⊥) → (i < length flags) × (flag flags i ≡ false)
    from (lt, none) = (omega (arith, lt, len), elim (cases_Bool (flag flags i)) [ inl t ↦ absurd (none ((h i).0 t)) | inr f ↦ f ])
