-- The words of the patterns of the worked examples, and the rules that they fit.
use Rattle.std.proofs.Common.{◌≡◌, ℕ, zero, suc, ◌≤◌, ◌<◌, Bool, true, false, not, ◌&&◌, ◌||◌, List, [], ◌∷◌, ◌++◌, length, ◌⊎◌, inl, inr, Some, None, refl, sym, ◌∙◌, ap, subst, arith}
use Rattle.std.specs.Prelude.{nat_eq, slice_get}
use Rattle.std.proofs.lemmas.List.{append-nil}
use Rattle.std.proofs.lemmas.Bool.{and_parts, eqb-true}
use Rattle.lex_semantics.proofs.Splits.{split_of, of_split}
use Rattle.lex_semantics.specs.ByteSets.{IsIn, has, single, set_of}
use Rattle.lex_semantics.specs.Tree.{In, InEach}
use Rattle.lex_semantics.specs.Spec.{Spec, Rule}
use Rattle.lex_semantics.specs.Active.{active}
use Rattle.lex_semantics.specs.Fits.{InTrail, Fits}
use Rattle.lex_semantics.specs.Examples.{letter, letters_of}
use Rattle.lex_semantics.proofs.Cuts.{same_rule}

-- below n the test passes at b alone
passes_at : ℕ → (ℕ → Bool) → ℕ → Bool
passes_at zero test b = true
passes_at (suc n) test b = (not (test n) || nat_eq n b) && passes_at n test b

here_or_not : (t e : Bool) → (not t || e) ≡ true → t ≡ true → e ≡ true
here_or_not true e h k = h
here_or_not false e h k = absurd (no k)
  where
    no : false ≡ true → ⊥
    no p = cc

passes_only : (n : ℕ) (test : ℕ → Bool) (b : ℕ) → passes_at n test b ≡ true → (c : ℕ) → c < n → test c ≡ true → c ≡ b
unfolding passes_at
passes_only zero test b h c lt is = absurd (omega (arith, lt))
passes_only (suc n) test b h c lt is =
    let both = and_parts (not (test n) || nat_eq n b) (passes_at n test b) h in
    from both (grind arith) (λ less. passes_only n test b both.1 c less is)
  where
    from : ((not (test n) || nat_eq n b) ≡ true) × (passes_at n test b ≡ true) → (c < n) ⊎ (c ≡ n) → (c < n → c ≡ b) → c ≡ b
    from both (inl less) later = later less
    from both (inr e) later = e ∙ eqb-true n b (here_or_not (test n) (nat_eq n b) both.0 (ap test (sym e) ∙ is))

-- a byte that no other byte stands for
abbrev pub IsAlone : ℕ → Type 0
IsAlone b = IsIn (single b) b × ((c : ℕ) → IsIn (single b) c → c ≡ b)

alone_by : (b : ℕ) → b < 256 → has (single b) b ≡ true → passes_at 256 (has (single b)) b ≡ true → IsAlone b
alone_by b lt is all = ((lt, is), λ c h. passes_only 256 (has (single b)) b all c h.0 h.1)

pub is_a : IsAlone 97
unfolding has single set_of passes_at
is_a = alone_by 97 (omega arith) refl refl

pub is_b : IsAlone 98
unfolding has single set_of passes_at
is_b = alone_by 98 (omega arith) refl refl

pub is_c : IsAlone 99
unfolding has single set_of passes_at
is_c = alone_by 99 (omega arith) refl refl

pub is_d : IsAlone 100
unfolding has single set_of passes_at
is_d = alone_by 100 (omega arith) refl refl

pub is_newline : IsAlone 10
unfolding has single set_of passes_at
is_newline = alone_by 10 (omega arith) refl refl

-- the words of a letter, and of a string

pub letter_is : (b : ℕ) → IsAlone b → (w : List ℕ) → In (letter b) w → w ≡ b ∷ []
letter_is b alone w (c, e, is) = e ∙ ap (λ z. z ∷ []) (alone.1 c is)

pub letter_in : (b : ℕ) → IsAlone b → In (letter b) (b ∷ [])
letter_in b alone = (b, refl, alone.0)

abbrev pub AllAlone : List ℕ → Type 0
AllAlone [] = Unit {0}
AllAlone (b ∷ bs) = IsAlone b × AllAlone bs

pub string_is : (bs : List ℕ) → AllAlone bs → (w : List ℕ) → InEach (letters_of bs) w → w ≡ bs
string_is [] alone w e = e
string_is (b ∷ bs) alone w (u, v, e, here, rest) = e ∙ ap (λ z. z ++ v) (letter_is b alone.0 u here) ∙ ap (λ z. b ∷ z) (string_is bs alone.1 v rest)

pub string_in : (bs : List ℕ) → AllAlone bs → InEach (letters_of bs) bs
string_in [] alone = refl
string_in (b ∷ bs) alone = (b ∷ [], bs, refl, letter_in b alone.0, string_in bs alone.1)

-- rules without trailing context

module _ (S : Spec) (c : ℕ) (line_start : Bool) (w : List ℕ) (i : ℕ) (r : Rule) (at : slice_get S.rules i ≡ Some r) (plain : r.trail ≡ None) where
  pub word_fits : active S c line_start r ≡ true → In r.head w → 1 ≤ length w → Fits S c line_start w i (length w)
  word_fits on word some = of_split S c line_start w i (length w) (record {
    rule = r;
    at = at;
    is_active = on;
    text = w;
    trail = [];
    splits = sym (append-nil w);
    length_is = refl;
    not_empty = some;
    in_head = word;
    in_trail = subst (λ t. InTrail t []) (sym plain) refl;
  })

  pub fits_word : (k : ℕ) → Fits S c line_start w i k → In r.head w × (active S c line_start r ≡ true) × (1 ≤ length w)
  fits_word k fits =
      let h = split_of S c line_start w i k fits in
      let same : h.rule ≡ r = same_rule S i h.rule r h.at at in
      let none : h.trail ≡ [] = subst (λ t. InTrail t h.trail) plain (subst (λ (q : Rule). InTrail q.trail h.trail) same h.in_trail) in
      let whole : h.text ≡ w = sym (append-nil h.text) ∙ ap (λ z. h.text ++ z) (sym none) ∙ sym h.splits in (
        subst (In r.head) whole (subst (λ (q : Rule). In q.head h.text) same h.in_head),
        subst (λ q. active S c line_start q ≡ true) same h.is_active,
        omega (arith, h.length_is, h.not_empty, ap length whole),
      )

  pub fits_length : (k : ℕ) → Fits S c line_start w i k → k ≡ length w
  fits_length k fits =
      let h = split_of S c line_start w i k fits in
      let same : h.rule ≡ r = same_rule S i h.rule r h.at at in
      let none : h.trail ≡ [] = subst (λ t. InTrail t h.trail) plain (subst (λ (q : Rule). InTrail q.trail h.trail) same h.in_trail) in
      h.length_is ∙ ap length (sym (append-nil h.text) ∙ ap (λ z. h.text ++ z) (sym none) ∙ sym h.splits)
