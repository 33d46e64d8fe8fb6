-- Sets that have a byte.
use Rattle.std.proofs.Common.{◌≡◌, ℕ, zero, suc, ◌<◌, ◌≤◌, ◌^◌, Bool, true, false, not, ◌&&◌, ◌||◌, ◌==◌, nat_le, nat_lt, List, [], ◌∷◌, Option, Some, None, ◌⊎◌, inl, inr, refl, ◌∙◌, subst, arith}
use Rattle.std.proofs.lemmas.Bool.Decides.{nat_tests}
use Rattle.std.specs.Prelude.{cond}
use Rattle.std.specs.List.{AllByRecursion}
use Rattle.std.specs.Map.{lookup}
use Rattle.std.specs.Option.{option_map}
use Rattle.lex_semantics.specs.ByteSets.{ByteSet, has, set_of, empty_set, single, range_set, union, complement, fold_case, other_case, same_bytes, classes, named_set, is_alpha, is_digit, is_alnum, is_blank, is_xdigit, HasByte}
use Rattle.lexre_bytes.specs.Lexical.{folded}
use Rattle.lexre_bytes.proofs.SetLaws.{has-set_of, set_of-lt, is_set_of}

some_is : {A : Type 0} (x y : A) → Some x ≡ Some y → x ≡ y
some_is x y e = cc

-- Sets.

pub passing_byte : (p : ℕ → Bool) (b : ℕ) → b < 256 → p b ≡ true → HasByte (set_of p)
passing_byte p b h e = (b, (h, has-set_of p b h ∙ e))

pub range_some : (lo hi : ℕ) → lo ≤ hi → lo < 256 → HasByte (range_set lo hi)
unfolding range_set
range_some lo hi h k = passing_byte (λ b. nat_le lo b && nat_le b hi) lo k (let e : nat_le lo lo ≡ true = grind (arith, nat_tests) in let f : nat_le lo hi ≡ true = grind (arith, nat_tests) in rw (e, f) refl)

pub single_some : (b : ℕ) → b < 256 → HasByte (single b)
unfolding single
single_some b h = passing_byte (λ c. c == b) b h (grind (arith, nat_tests))

or_true : (x y : Bool) → x ≡ true → (x || y) ≡ true
or_true true y e = refl
or_true false y e = cc

pub union_some : (s t : ByteSet) → HasByte s → HasByte (union s t)
unfolding union
union_some s t (b, (h, e)) = passing_byte (λ c. has s c || has t c) b h (or_true (has s b) (has t b) e)

pub folded_some : (fold : Bool) (s : ByteSet) → HasByte s → HasByte (folded fold s)
unfolding fold_case
folded_some true s (b, (h, e)) = passing_byte (λ c. has s c || has s (other_case c)) b h (or_true (has s b) _ e)
folded_some false s some = some

-- the set of the test, if there is one, has a byte
abbrev SomeByte : Option (ℕ → Bool) → Type 0
SomeByte o = (s : ByteSet) → option_map set_of o ≡ Some s → HasByte s

either : (b : Bool) (p : ℕ → Bool) (w : ℕ) (o : Option (ℕ → Bool)) → w < 256 → p w ≡ true → SomeByte o → SomeByte (cond b (Some p) o)
either true p w o h k rest s e = subst HasByte (some_is (set_of p) s e) (passing_byte p w h k)
either false p w o h k rest s e = rest s e

no_set : SomeByte None
no_set s e = cc

-- where each of these classes has a byte, the one of a name has
some_class : (n : List ℕ) (cs : List (List ℕ × (ℕ → Bool))) → AllByRecursion (λ c. (b : ℕ) × (b < 256) × (c.1 b ≡ true)) cs → SomeByte (lookup (same_bytes n) cs)
some_class n [] h = no_set
some_class n (c ∷ cs) h = either (same_bytes n c.0) c.1 h.0.0 (lookup (same_bytes n) cs) h.0.1 h.0.2 (some_class n cs h.1)

pub named_some : (n : List ℕ) (s : ByteSet) → named_set n ≡ Some s → HasByte s
unfolding named_set is_alpha is_digit is_alnum is_blank is_xdigit
named_some n =
    some_class n classes (
      (65, omega arith, refl),
      (
        (48, omega arith, refl),
        (
          (65, omega arith, refl),
          (
            (65, omega arith, refl),
            (
              (97, omega arith, refl),
              (
                (32, omega arith, refl),
                ((32, omega arith, refl), ((0, omega arith, refl), ((65, omega arith, refl), ((65, omega arith, refl), ((33, omega arith, refl), ((48, omega arith, refl), tt)))))),
              ),
            ),
          ),
        ),
      ),
    )

some_below : (s n : ℕ) → ((b : ℕ) → b < n → has s b ≡ false) ⊎ ((b : ℕ) × (b < n) × (has s b ≡ true))
some_below s zero = inl (λ b h. absurd (omega arith))
some_below s (suc n) = go (some_below s n) (has s n) refl
  where
    more : ((b : ℕ) → b < n → has s b ≡ false) → has s n ≡ false → (b : ℕ) → b < suc n → has s b ≡ false
    more below e b h = elim (nat_lt b n) as (λ x. nat_lt b n ≡ x → has s b ≡ false) [
      | true ↦ λ k. below b (grind (arith, nat_tests))
      | false ↦ λ k. (let same : n ≡ b = grind (arith, nat_tests) in subst (λ x. has s x ≡ false) same e)
    ] refl

    go : ((b : ℕ) → b < n → has s b ≡ false) ⊎ ((b : ℕ) × (b < n) × (has s b ≡ true)) → (x : Bool) → has s n ≡ x
        → ((b : ℕ) → b < suc n → has s b ≡ false) ⊎ ((b : ℕ) × (b < suc n) × (has s b ≡ true))
    go (inr (b, h, e)) x k = inr (b, omega arith, e)
    go (inl below) true k = inr (n, omega arith, k)
    go (inl below) false k = inl (more below k)

pub nonempty_some : (s : ByteSet) → s < 2 ^ 256 → (s ≡ empty_set → ⊥) → HasByte s
unfolding empty_set
nonempty_some s h some = go (some_below s 256)
  where
    go : ((b : ℕ) → b < 256 → has s b ≡ false) ⊎ ((b : ℕ) × (b < 256) × (has s b ≡ true)) → HasByte s
    go (inr (b, k, e)) = (b, (k, e))
    go (inl none) = absurd (some (is_set_of s (λ b. false) h none))

pub complement_some : (s k : ByteSet) → k ≡ complement s → (k ≡ empty_set → ⊥) → HasByte k
unfolding complement
complement_some s k e some = nonempty_some k (rw e (set_of-lt (λ b. not (has s b)))) some
