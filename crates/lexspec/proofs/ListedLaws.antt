-- The conditions of a rule, by number.
use Rattle.std.proofs.Common.{◌≡◌, ℕ, zero, suc, ◌+◌, ◌-◌, ◌<◌, ◌==◌, ◌||◌, ◌&&◌, Bool, true, false, not, cond, if◌then◌else◌, List, [], ◌∷◌, length, get_or, drop, Option, Some, None, is_some, ◌⊎◌, inl, inr, refl, sym, ap, subst, ◌∙◌, arith}
use Rattle.std.specs.Prelude.{codes, filter_map, replicate, slice_set, IfNone}
use Rattle.std.proofs.lemmas.Bool.{eqb-true, eqb-false, eq-eqb}
use Rattle.std.specs.List.{list_any, slice_split, onto_first, cons_option}
use Rattle.lex_semantics.specs.Active.{contains}
use Rattle.lexspec_lines.proofs.TextLaws.{Other, decide}
use Rattle.lex_semantics.specs.Reading.{take_up_to}
use Rattle.lexspec_lines.specs.Runs.{split_before}
use Rattle.lexspec.specs.Tests.{is_number}
use Rattle.lex_semantics.specs.Text.{listed}
use Rattle.lexspec.specs.SubjectViews.{all_numbered, parts}
use Rattle.lex_semantics.specs.Limits.{max_conditions}

abbrev Split : Type 0
Split = List ℕ × List ℕ

-- the parts of a text, by what is split off before the first sign
abbrev after_part : List ℕ → List (List ℕ)
after_part [] = []
after_part (c ∷ back) = slice_split (λ c. c == 44) back

abbrev with_first : ℕ → Split → Split
with_first c s = (c ∷ s.0, s.1)

abbrev choose : Bool → Split → Split → Split
choose b x y = if b then x else y

-- a single sign is looked for as a byte
same_byte : (d c : ℕ) → contains (d ∷ []) c ≡ (c == d)
same_byte d c = from (decide d c)
  where
    from : (d ≡ c) ⊎ Other d c → contains (d ∷ []) c ≡ (c == d)
    from (inl e) = subst (λ z. contains (d ∷ []) z ≡ (z == d)) e (ap (λ b. b || false) (eq-eqb d d refl) ∙ sym (eq-eqb d d refl))
    from (inr e) = ap (λ b. b || false) e.0 ∙ sym e.1

comma : contains (codes ",") ≡ (λ c. c == 44)
comma i c = same_byte 44 c i

parts_split : (t : List ℕ) → slice_split (λ c. c == 44) t ≡ (split_before (λ c. c == 44) t).0 ∷ after_part (split_before (λ c. c == 44) t).1
unfolding take_up_to
parts_split [] = refl
parts_split (c ∷ t) = from (c == 44) (parts_split t)
  where
    from : (b : Bool) → slice_split (λ c. c == 44) t ≡ (split_before (λ c. c == 44) t).0 ∷ after_part (split_before (λ c. c == 44) t).1
        → cond b ([] ∷ slice_split (λ c. c == 44) t) (onto_first c (slice_split (λ c. c == 44) t))
        ≡ (choose (not b) (with_first c (split_before (λ c. c == 44) t)) ([], c ∷ t)).0 ∷ after_part (choose (not b) (with_first c (split_before (λ c. c == 44) t)) ([], c ∷ t)).1
    from true h = refl
    from false h = ap (onto_first c) h

-- the parts as the code finds them
parts_are : (t : List ℕ) → parts t ≡ slice_split (λ c. c == 44) t
parts_are t = ap (λ (f : ℕ → Bool). slice_split f t) comma

pub parts_first : (t front back : List ℕ) → ◌≡◌ {A = Split} (split_before (λ c. c == 44) t) (front, back) → parts t ≡ front ∷ after_part back
parts_first t front back e = parts_are t ∙ parts_split t ∙ ap (λ (s : Split). s.0 ∷ after_part s.1) e

pub last_part : (t front back : List ℕ) → ◌≡◌ {A = Split} (split_before (λ c. c == 44) t) (front, back) → length back ≡ 0 → parts t ≡ front ∷ []
last_part t front [] e h = parts_first t front [] e
last_part t front (c ∷ back) e h = absurd (omega arith)

pub next_part : (t front back rest : List ℕ) → ◌≡◌ {A = Split} (split_before (λ c. c == 44) t) (front, back) → (length back ≡ 0 → ⊥) → rest ≡ drop 1 back → parts t ≡ front ∷ parts rest
next_part t front [] rest e h is = absurd (h refl)
next_part t front (c ∷ back) rest e h is = parts_first t front (c ∷ back) e ∙ ap (λ z. front ∷ z) (sym (parts_are back)) ∙ ap (λ z. front ∷ parts z) (sym is)

-- Flags at the numbers of the names that were met.
pub record Marks (number : List ℕ → Option ℕ) (names rest : List (List ℕ)) (flags : List Bool) : Type 0 where
  pub count : length flags ≡ max_conditions
  pub numbered : all_numbered number rest ≡ all_numbered number names
  pub listed : (c : ℕ) → c < max_conditions → (get_or flags c false || list_any (λ name. is_number (number name) c) rest) ≡ list_any (λ name. is_number (number name) c) names

no_flag : (n c : ℕ) → get_or (replicate n false) c false ≡ false
no_flag zero c = refl
no_flag (suc n) zero = refl
no_flag (suc n) (suc c) = no_flag n c

pub marks_first : (number : List ℕ → Option ℕ) (names : List (List ℕ)) → Marks number names names (replicate max_conditions false)
marks_first number names = record { count = refl; numbered = refl; listed = λ c h. ap (λ z. z || list_any (λ name. is_number (number name) c) names) (no_flag max_conditions c) }

or_comes : (a b c : Bool) → ((a || b) || c) ≡ (a || (b || c))
or_comes true b c = refl
or_comes false b c = refl

flag_same : (flags : List Bool) (k : ℕ) → k < length flags → get_or (slice_set flags k true) k false ≡ true
flag_same [] k h = absurd (omega arith)
flag_same (f ∷ flags) zero h = refl
flag_same (f ∷ flags) (suc k) h = flag_same flags k (omega arith)

flag_other : (flags : List Bool) (k c : ℕ) → (k ≡ c → ⊥) → get_or (slice_set flags k true) c false ≡ get_or flags c false
flag_other [] k c h = refl
flag_other (f ∷ flags) zero zero h = absurd (h refl)
flag_other (f ∷ flags) zero (suc c) h = refl
flag_other (f ∷ flags) (suc k) zero h = refl
flag_other (f ∷ flags) (suc k) (suc c) h = flag_other flags k c (λ e. h (omega arith))

flag_set : (flags : List Bool) (k c : ℕ) → k < length flags → get_or (slice_set flags k true) c false ≡ (get_or flags c false || (k == c))
flag_set flags k c h = from (k == c) refl
  where
    or_right : (b : Bool) → (b || true) ≡ true
    or_right true = refl
    or_right false = refl

    or_none : (b : Bool) → (b || false) ≡ b
    or_none true = refl
    or_none false = refl

    from : (b : Bool) → (k == c) ≡ b → get_or (slice_set flags k true) c false ≡ (get_or flags c false || (k == c))
    from true e =
        ap (λ z. get_or (slice_set flags k true) z false) (sym (eqb-true k c e)) ∙ flag_same flags k h ∙ sym (or_right (get_or flags c false)) ∙ ap (λ z. get_or flags c false || z) (sym e)
    from false e = flag_other flags k c (eqb-false k c e) ∙ sym (or_none (get_or flags c false)) ∙ ap (λ z. get_or flags c false || z) (sym e)

length_set : (flags : List Bool) (k : ℕ) → length (slice_set flags k true) ≡ length flags
length_set [] k = refl
length_set (f ∷ flags) zero = refl
length_set (f ∷ flags) (suc k) = ap suc (length_set flags k)

pub marks_next : (number : List ℕ → Option ℕ) (names all rest : List (List ℕ)) (name : List ℕ) (flags : List Bool) (k : ℕ) → Marks number names all flags → all ≡ name ∷ rest → number name ≡ Some k → k < 255
    → Marks number names rest (slice_set flags k true)
marks_next number names all rest name flags k m first here below = record {
  count = length_set flags k ∙ m.count;
  numbered = ap (λ o. is_some o && all_numbered number rest) (sym here) ∙ ap (all_numbered number) (sym first) ∙ m.numbered;
  listed = (λ c h.
      let others = list_any (λ n. is_number (number n) c) rest in
      let n = m.count in
      ap (λ z. z || others) (flag_set flags k c (omega arith)) ∙ or_comes (get_or flags c false) (k == c) others
      ∙ ap (λ o. get_or flags c false || (is_number o c || others)) (sym here)
      ∙ ap (λ z. get_or flags c false || list_any (λ n. is_number (number n) c) z) (sym first) ∙ m.listed c h);
}

-- some name has the number
names_listed : (number : List ℕ → Option ℕ) (names : List (List ℕ)) (c : ℕ) → list_any (λ name. is_number (number name) c) names ≡ contains (filter_map number names) c
names_listed number [] c = refl
names_listed number (name ∷ names) c = from (number name) (names_listed number names c)
  where
    from : (o : Option ℕ) → list_any (λ name. is_number (number name) c) names ≡ contains (filter_map number names) c
        → (is_number o c || list_any (λ name. is_number (number name) c) names) ≡ contains (cons_option o (filter_map number names)) c
    from None h = h
    from (Some k) h = ap (λ b. (k == c) || b) h

pub marks_all : (number : List ℕ → Option ℕ) (names : List (List ℕ)) (flags : List Bool) → Marks number names [] flags
    → (all_numbered number names ≡ true) × ((c : ℕ) → c < max_conditions → get_or flags c false ≡ contains (filter_map number names) c)
marks_all number names flags m = (sym m.numbered, λ c h. sym (or_none (get_or flags c false)) ∙ m.listed c h ∙ names_listed number names c)
  where
    or_none : (b : Bool) → (b || false) ≡ b
    or_none true = refl
    or_none false = refl

pub marks_none : (number : List ℕ → Option ℕ) (names all rest : List (List ℕ)) (name : List ℕ) (flags : List Bool) → Marks number names all flags → all ≡ name ∷ rest → number name ≡ None
    → all_numbered number names ≡ false
marks_none number names all rest name flags m first here = sym m.numbered ∙ ap (all_numbered number) first ∙ ap (λ o. is_some o && all_numbered number rest) here

pub if_none_any : {A : Type 0} (o : Option A) (F : Type 0) → F → IfNone o F
if_none_any None F h = h
if_none_any (Some x) F h = tt

-- numbers from a place on
pub number_here : (k count : ℕ) (test : ℕ → Bool) → k < count → test k ≡ true → listed test k (count - k) ≡ k ∷ listed test (k + 1) (count - (k + 1))
number_here k count test h pass =
    let one : count - k ≡ suc (count - (k + 1)) = omega arith in
    let next : suc k ≡ k + 1 = omega arith in
    ap (λ n. listed test k n) one ∙ ap (λ b. cond b (k ∷ listed test (suc k) (count - (k + 1))) (listed test (suc k) (count - (k + 1)))) pass
    ∙ ap (λ z. k ∷ listed test z (count - (k + 1))) next

pub number_not : (k count : ℕ) (test : ℕ → Bool) → k < count → test k ≡ false → listed test k (count - k) ≡ listed test (k + 1) (count - (k + 1))
number_not k count test h pass =
    let one : count - k ≡ suc (count - (k + 1)) = omega arith in
    let next : suc k ≡ k + 1 = omega arith in
    ap (λ n. listed test k n) one ∙ ap (λ b. cond b (k ∷ listed test (suc k) (count - (k + 1))) (listed test (suc k) (count - (k + 1)))) pass
    ∙ ap (λ z. listed test z (count - (k + 1))) next

all_flags : (n c : ℕ) → c < n → get_or (replicate n true) c false ≡ true
all_flags zero c h = absurd (omega arith)
all_flags (suc n) zero h = refl
all_flags (suc n) (suc c) h = all_flags n c (omega arith)

pub every_flag : (c : ℕ) → c < max_conditions → get_or (replicate max_conditions true) c false ≡ true
every_flag c h = all_flags max_conditions c h
