-- What is known of each state's first rule.
use Rattle.std.proofs.Common.{◌≡◌, ℕ, zero, suc, ◌+◌, ◌-◌, ◌<◌, ◌≤◌, Bool, true, false, List, [], ◌∷◌, ◌++◌, length, cond, Some, None, inl, inr, refl, sym, ap, subst, ◌∙◌, arith}
use Rattle.std.specs.Prelude.{slice_get, slice_index, map, ⊤}
use Rattle.std.proofs.Common.{length-set, slice_set}
use Rattle.std.proofs.lemmas.List.{get_or-set_same, get_or-set_other}
use Rattle.std.proofs.lemmas.Bool.{cases_lt}
use Rattle.lex_semantics.specs.Spec as S
use Rattle.lex_semantics.specs.Machine.{Machine}
use Rattle.lex_machine.specs.declared.action.Statement.{Statement as Item}
use Rattle.lex_machine.specs.declared.glance.Gist.TheVariants as Gist
use Rattle.lex_machine.specs.Views.{statement_of}
use Rattle.lex_machine.specs.Glances.{FirstDoes, Gists, are_simple}
use Rattle.lextab_packed.specs.declared.kinds.Kind.{Kind}
use Rattle.lextab_packed.specs.declared.kinds.Kind.TheVariants.{Any, NoRule, Silent, Echo, Print, Begin, Several}
use Rattle.lextab_packed.specs.Flats.{kind_doing, kind_keeping, kind_first, kind_of, as_target}

-- an element more
slice_get_before : {A : Type 0} (xs : List A) (y : A) (s : ℕ) → s < length xs → slice_get (xs ++ y ∷ []) s ≡ slice_get xs s
slice_get_before [] y s lt = absurd (omega (arith, lt))
slice_get_before (x ∷ xs) y zero lt = refl
slice_get_before (x ∷ xs) y (suc s) lt = slice_get_before xs y s (omega (arith, lt))

slice_get_last : {A : Type 0} (xs : List A) (y : A) → slice_get (xs ++ y ∷ []) (length xs) ≡ Some y
slice_get_last [] y = refl
slice_get_last (x ∷ xs) y = slice_get_last xs y

pub each_more : {A : Type 0} (f : ℕ → A) (xs : List A) (n : ℕ) → length xs ≡ n → ((s : ℕ) → s < n → slice_get xs s ≡ Some (f s)) → (s : ℕ) → s < n + 1 → slice_get (xs ++ f n ∷ []) s ≡ Some (f s)
each_more f xs n len all s lt = elim (cases_lt s n) [
  | inl low ↦ slice_get_before xs (f n) s (omega (arith, len, low)) ∙ all s low
  | inr high ↦ (
      let e : n ≡ s = omega (arith, lt, high) in
      let last = slice_get_last xs (f n) in
      subst (λ k. slice_get (xs ++ f n ∷ []) k ≡ Some (f k)) e (subst (λ k. slice_get (xs ++ f n ∷ []) k ≡ Some (f n)) len last)
      )
]

-- This is the first rule that the state accepts, and it keeps all of a match.
pub record Firstly (M : Machine) (s rule : ℕ) : Type 0 where
  pub others : List ℕ
  pub accepts : M.accepts s ≡ rule ∷ others
  pub whole : M.cut rule ≡ S.Whole

-- what a kind says of a state
abbrev pub Knows : Machine → ℕ → Kind → Type 0
Knows M s Any = ⊤
Knows M s NoRule = M.accepts s ≡ []
Knows M s Silent = FirstDoes M s []
Knows M s Echo = FirstDoes M s (S.Echo ∷ [])
Knows M s (Print rule) = Firstly M s rule × ((bytes : List ℕ) × (M.statements rule ≡ S.Print bytes ∷ []))
Knows M s (Begin c) = FirstDoes M s (S.Begin c ∷ [])
Knows M s (Several rule) = Firstly M s rule × (are_simple (M.statements rule) ≡ true)

pub first_does : (M : Machine) (s rule : ℕ) (ss : List S.Statement) → Firstly M s rule → M.statements rule ≡ ss → FirstDoes M s ss
first_does M s rule ss f e = record { rule = rule; others = f.others; accepts = f.accepts; whole = f.whole; does = e }

module _ (M : Machine) (s rule : ℕ) (f : Firstly M s rule) where
  simple_or_any : (ss : List S.Statement) → M.statements rule ≡ ss → (b : Bool) → are_simple ss ≡ b → Knows M s (cond b (Several rule) Any)
  simple_or_any ss e true h = (f, ap are_simple e ∙ h)
  simple_or_any ss e false h = tt

  doing : (ss : List S.Statement) → M.statements rule ≡ ss → Knows M s (kind_doing rule ss)
  doing [] e = first_does M s rule [] f e
  doing (S.Echo ∷ []) e = first_does M s rule (S.Echo ∷ []) f e
  doing (S.Print bytes ∷ []) e = (f, (bytes, e))
  doing (S.Begin c ∷ []) e = first_does M s rule (S.Begin c ∷ []) f e
  doing (S.More ∷ []) e = simple_or_any (S.More ∷ []) e false refl
  doing (S.Less n ∷ []) e = simple_or_any (S.Less n ∷ []) e false refl
  doing (S.Reject ∷ []) e = simple_or_any (S.Reject ∷ []) e false refl
  doing (S.End n ∷ []) e = simple_or_any (S.End n ∷ []) e false refl
  doing (S.Push c ∷ []) e = simple_or_any (S.Push c ∷ []) e false refl
  doing (S.Pop ∷ []) e = simple_or_any (S.Pop ∷ []) e false refl
  doing (S.Echo ∷ x ∷ ss) e = simple_or_any (S.Echo ∷ x ∷ ss) e (are_simple (S.Echo ∷ x ∷ ss)) refl
  doing (S.Print bytes ∷ x ∷ ss) e = simple_or_any (S.Print bytes ∷ x ∷ ss) e (are_simple (S.Print bytes ∷ x ∷ ss)) refl
  doing (S.Begin c ∷ x ∷ ss) e = simple_or_any (S.Begin c ∷ x ∷ ss) e (are_simple (S.Begin c ∷ x ∷ ss)) refl
  doing (S.More ∷ x ∷ ss) e = simple_or_any (S.More ∷ x ∷ ss) e false refl
  doing (S.Less n ∷ x ∷ ss) e = simple_or_any (S.Less n ∷ x ∷ ss) e false refl
  doing (S.Reject ∷ x ∷ ss) e = simple_or_any (S.Reject ∷ x ∷ ss) e false refl
  doing (S.End n ∷ x ∷ ss) e = simple_or_any (S.End n ∷ x ∷ ss) e false refl
  doing (S.Push c ∷ x ∷ ss) e = simple_or_any (S.Push c ∷ x ∷ ss) e false refl
  doing (S.Pop ∷ x ∷ ss) e = simple_or_any (S.Pop ∷ x ∷ ss) e false refl

keeping : (M : Machine) (s rule : ℕ) (others : List ℕ) → M.accepts s ≡ rule ∷ others → (cut : S.Cut) → M.cut rule ≡ cut → Knows M s (kind_keeping rule cut (M.statements rule))
keeping M s rule others e S.Whole w = doing M s rule (record { others = others; accepts = e; whole = w }) (M.statements rule) refl
keeping M s rule others e (S.Head n) w = tt
keeping M s rule others e (S.Trail n) w = tt

knows_first : (M : Machine) (s : ℕ) (l : List ℕ) → M.accepts s ≡ l → Knows M s (kind_first M l)
knows_first M s [] e = e
knows_first M s (rule ∷ others) e = keeping M s rule others e (M.cut rule) refl

-- what is known of a state by its kind
pub knows : (M : Machine) (s : ℕ) (k : Kind) → k ≡ kind_of M s → Knows M s k
knows M s k e = subst (Knows M s) (sym e) (knows_first M s (M.accepts s) refl)

-- the only statement is this one
pub only_is : (items : List Item) (item : Item) (a b : S.Statement) → Some item ≡ slice_get items 0 → statement_of item ≡ a → map statement_of items ≡ b ∷ [] → map statement_of items ≡ a ∷ []
only_is [] item a b e is one = absurd (no e)
  where
    no : Some item ≡ None → ⊥
    no p = cc
only_is (i ∷ []) item a b e is one = ap (λ z. statement_of z ∷ []) (sym (item_inj item i e)) ∙ ap (λ z. z ∷ []) is
  where
    item_inj : (x y : Item) → Some x ≡ Some y → x ≡ y
    item_inj x y p = cc
only_is (i ∷ j ∷ items) item a b e is one = absurd (no one)
  where
    no : statement_of i ∷ statement_of j ∷ map statement_of items ≡ b ∷ [] → ⊥
    no p = cc

-- what the mark of a stop says
module _ (M : Machine) (s r : ℕ) (low : s ≤ 8192) where
  pub marks_none : (k : Kind) → k ≡ kind_of M s → r ≡ as_target false k s → r < 2148532224 → Gists M s Gist.NoRule
  marks_none Any e m lt = absurd (omega (arith, m, lt))
  marks_none NoRule e m lt = knows M s NoRule e
  marks_none Silent e m lt = absurd (omega (arith, m, lt))
  marks_none Echo e m lt = absurd (omega (arith, m, lt))
  marks_none (Print rule) e m lt = absurd (omega (arith, m, lt))
  marks_none (Begin c) e m lt = absurd (omega (arith, m, lt))
  marks_none (Several rule) e m lt = absurd (omega (arith, m, lt))

  pub marks_silent : (k : Kind) → k ≡ kind_of M s → r ≡ as_target false k s → 2148532224 ≤ r → r < 2149580800 → Gists M s Gist.Silent
  marks_silent Any e m le lt = absurd (omega (arith, m, lt))
  marks_silent NoRule e m le lt = absurd (omega (arith, m, le, low))
  marks_silent Silent e m le lt = knows M s Silent e
  marks_silent Echo e m le lt = absurd (omega (arith, m, lt))
  marks_silent (Print rule) e m le lt = absurd (omega (arith, m, lt))
  marks_silent (Begin c) e m le lt = absurd (omega (arith, m, lt))
  marks_silent (Several rule) e m le lt = absurd (omega (arith, m, lt))

  pub marks_echo : (k : Kind) → k ≡ kind_of M s → r ≡ as_target false k s → 2149580800 ≤ r → r < 2150629376 → Gists M s Gist.Echo
  marks_echo Any e m le lt = absurd (omega (arith, m, lt))
  marks_echo NoRule e m le lt = absurd (omega (arith, m, le, low))
  marks_echo Silent e m le lt = absurd (omega (arith, m, le, low))
  marks_echo Echo e m le lt = knows M s Echo e
  marks_echo (Print rule) e m le lt = absurd (omega (arith, m, lt))
  marks_echo (Begin c) e m le lt = absurd (omega (arith, m, lt))
  marks_echo (Several rule) e m le lt = absurd (omega (arith, m, lt))

  pub marks_other : (k : Kind) → r ≡ as_target false k s → 2150629376 ≤ r → r - 2150629376 ≡ s
  marks_other Any m le = omega (arith, m)
  marks_other NoRule m le = absurd (omega (arith, m, le, low))
  marks_other Silent m le = absurd (omega (arith, m, le, low))
  marks_other Echo m le = absurd (omega (arith, m, le, low))
  marks_other (Print rule) m le = omega (arith, m)
  marks_other (Begin c) m le = omega (arith, m)
  marks_other (Several rule) m le = omega (arith, m)

-- one place more is changed: those up to it are f's, and those after it are g's
pub set_one : (f g : ℕ → ℕ) (xs : List ℕ) (n y : ℕ) → n < length xs → y ≡ f n → ((k : ℕ) → k < n → slice_index xs k ≡ f k) → ((k : ℕ) → n ≤ k → k < length xs → slice_index xs k ≡ g k) →
    ((k : ℕ) → k < n + 1 → slice_index (slice_set xs n y) k ≡ f k) × ((k : ℕ) → n + 1 ≤ k → k < length (slice_set xs n y) → slice_index (slice_set xs n y) k ≡ g k)
set_one f g xs n y inside is before after = (
  λ k lt. elim (cases_lt k n) [
    | inl low ↦ get_or-set_other xs n k y 0 (λ e. absurd (omega (arith, e, low))) ∙ before k low
    | inr high ↦ (let e : n ≡ k = omega (arith, lt, high) in subst (λ i. slice_index (slice_set xs n y) i ≡ f i) e (get_or-set_same xs n y 0 inside ∙ is))
  ],
  λ k low lt. get_or-set_other xs n k y 0 (λ e. absurd (omega (arith, e, low))) ∙ after k (omega (arith, low)) (omega (arith, lt, length-set xs n y)),
)

-- one place more is what it should be: those up to it are f's, and those after it are g's
pub keep_one : (f g : ℕ → ℕ) (xs : List ℕ) (n : ℕ) → slice_index xs n ≡ f n → ((k : ℕ) → k < n → slice_index xs k ≡ f k) → ((k : ℕ) → n ≤ k → k < length xs → slice_index xs k ≡ g k) →
    ((k : ℕ) → k < n + 1 → slice_index xs k ≡ f k) × ((k : ℕ) → n + 1 ≤ k → k < length xs → slice_index xs k ≡ g k)
keep_one f g xs n here before after = (
  λ k lt. elim (cases_lt k n) [
    | inl low ↦ before k low
    | inr high ↦ (let e : n ≡ k = omega (arith, lt, high) in subst (λ i. slice_index xs i ≡ f i) e here)
  ],
  λ k low lt. after k (omega (arith, low)) lt,
)
