-- Sets of numbers as keys, and the numbers that are marked.
use Rattle.std.specs.Prelude.{◌≡◌, ◌↔◌, ℕ, ◌-◌, ◌<◌, Bool, true, false, ◌⊎◌, List, [], ◌∷◌, length, slice_index, ◌&&◌, nat_lt}
use Rattle.std.proofs.Common.{rules, inl, inr, refl, ap, sym, ◌∙◌, arith}
use Rattle.std.proofs.lemmas.Bool.{cases_Bool, ltb-true}
use Rattle.std.proofs.Math.Path.{fun_ext}
use Rattle.lex_semantics.specs.Text.{Among, listed}
use Rattle.lex_semantics.specs.Active.{contains}
use Rattle.lex_semantics.specs.Spec.{Rule}
use Rattle.lex_semantics.specs.Subsets.{all_positions}
use Rattle.lexauto_positions.specs.Cursors.{Increases}
use Rattle.lexauto_positions.specs.RuleFlow.{rules_left}
use Rattle.lexauto.specs.Sets.{marked, tagged, starts_in, lasts_in}
use Rattle.lexauto_positions.proofs.CursorLaws.{among_at, at_among}
use Rattle.lexauto_positions.proofs.FlowMeaning.{both, and_is, no_true}
use Rattle.lexauto_positions.proofs.Numbers.{lists_is, listed_is}
use Rattle.lexauto_positions.proofs.Quiet.{not_true}

pub marked_is : (n : ℕ) (xs : List ℕ) (x : ℕ) → (marked n xs x ≡ true) ↔ ((x < n) × Among xs x)
marked_is n xs x = both (and_is (nat_lt x n) (contains xs x)) ((λ h. (ltb-true x n h.0, (lists_is xs x).0 h.1)), (λ h. (lt_test x n h.0, (lists_is xs x).1 h.1)))
  where
    lt_test : (a b : ℕ) → a < b → nat_lt a b ≡ true
    lt_test a b h = search rules

-- kinds

pub starts_tagged : (xs : List ℕ) → starts_in (tagged 0 xs) ≡ xs
starts_tagged [] = refl
starts_tagged (x ∷ xs) = refl

pub no_starts_tagged : (xs : List ℕ) → starts_in (tagged 1 xs) ≡ []
no_starts_tagged [] = refl
no_starts_tagged (x ∷ xs) = refl

pub lasts_tagged : (xs : List ℕ) → lasts_in (tagged 1 xs) ≡ xs
lasts_tagged [] = refl
lasts_tagged (x ∷ xs) = refl

pub no_lasts_tagged : (xs : List ℕ) → lasts_in (tagged 0 xs) ≡ []
no_lasts_tagged [] = refl
no_lasts_tagged (x ∷ xs) = refl

pub none_marked : (n i : ℕ) (xs : List ℕ) → xs ≡ [] → false ≡ marked n xs i
none_marked n i xs e = from (nat_lt i n) ∙ ap (λ (ys : List ℕ). marked n ys i) (sym e)
  where
    from : (b : Bool) → false ≡ (b && false)
    from true = refl
    from false = refl

-- numbers that are all less than n are those of them that are
pub all_marked : (n : ℕ) (l : List ℕ) → ((j : ℕ) → j < length l → slice_index l j < n) → (i : ℕ) → contains l i ≡ marked n l i
all_marked n l h i = elim (cases_Bool (contains l i)) [
  | inl y ↦ (let a = (lists_is l i).0 y in let r = among_at l i a in let low = h r.0 r.1 in let e = r.2 in
      y ∙ sym ((marked_is n l i).1 (omega (arith, low, e), a)))
  | inr f ↦ f ∙ sym (not_true (marked n l i) (λ m. no_true (sym f ∙ (lists_is l i).1 ((marked_is n l i).0 m).1)))
]

-- numbers that increase are below n if the last one is
pub below_last : (n : ℕ) (l : List ℕ) → Increases l → slice_index l (length l - 1) < n → (j : ℕ) → j < length l → slice_index l j < n
below_last n l inc last j low = elim (let d : (j ≡ length l - 1) ⊎ (j < length l - 1) = grind (arith, low) in d) [
  | inl e ↦ (let same : slice_index l j ≡ slice_index l (length l - 1) = ap (slice_index l) e in omega (arith, same, last))
  | inr lt ↦ (let m = inc j (length l - 1) lt (omega (arith, low)) in omega (arith, m, last))
]

-- the numbers with a flag, listed
pub listed_flags : (n : ℕ) (f : ℕ → Bool) → ((i : ℕ) → f i ≡ true → i < n) → (i : ℕ) → contains (listed f 0 n) i ≡ f i
listed_flags n f low i = elim (cases_Bool (f i)) [
  | inl y ↦ (lists_is (listed f 0 n) i).1 ((listed_is f n i).1 (low i y, y)) ∙ sym y
  | inr e ↦ not_true (contains (listed f 0 n) i) (λ h. no_true (sym e ∙ ((listed_is f n i).0 ((lists_is (listed f 0 n) i).0 h)).1)) ∙ sym e
]

-- those that are marked are less than n
pub below_marked : (n : ℕ) (l xs : List ℕ) → ((i : ℕ) → contains l i ≡ marked n xs i) → (j : ℕ) → j < length l → slice_index l j < n
below_marked n l xs h j low = ((marked_is n xs (slice_index l j)).0 (sym (h (slice_index l j)) ∙ (lists_is l (slice_index l j)).1 (at_among l j low))).0

-- the rules that are left, whose positions are listed
pub left_is : (own all : List Rule) (last : ℕ → Bool) (count : ℕ) (xs : List ℕ) → rules_left own last 0 0 ≡ rules_left all last 0 0 → ((i : ℕ) → last i ≡ marked count xs i) → all_positions all ≡ count
    → rules_left own last 0 0 ≡ rules_left all (marked (all_positions all) xs) 0 0
left_is own all last count xs e h n = e ∙ ap (λ (f : ℕ → Bool). rules_left all f 0 0) (fun_ext h) ∙ ap (λ (m : ℕ). rules_left all (marked m xs) 0 0) (sym n)
