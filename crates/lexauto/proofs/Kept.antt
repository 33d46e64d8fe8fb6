-- Keys as they are kept say what they are.
use Rattle.std.proofs.Common.{◌≡◌, ◌&&◌, ℕ, zero, suc, ◌<◌, ◌++◌, List, [], ◌∷◌, length, Bool, true, false, refl, ap, sym, ◌∙◌, inl, inr, get_or, arith}
use Rattle.std.specs.Prelude.{nat_lt, slice_index_or}
use Rattle.std.specs.Cmp.Lexicographic.{bytes_decides}
use Rattle.std.specs.Str.{bytes_eq}
use Rattle.std.proofs.lemmas.Bool.{cases_Bool, cond-true, cond-false}
use Rattle.lexauto.specs.Keys.{Key}
use Rattle.lexauto.specs.declared.interner.KeptKey.{KeptKey}
use Rattle.lexauto.specs.KeyPacking.{unpacked, word_count, bits_of, packed, kept_in}

both : (a b : Bool) → a ≡ true → b ≡ true → (a && b) ≡ true
both a b h g = rw h g

second : (a b : Bool) → (a && b) ≡ true → b ≡ true
second true b h = h
second false b h = absurd cc

neither : (a b : Bool) → a ≡ false → (a && b) ≡ false
neither a b h = rw h refl

not_second : (a b : Bool) → b ≡ false → (a && b) ≡ false
not_second true b h = h
not_second false b h = refl

module _ (k : Key) where
  pub kept_as_bits : nat_lt (word_count k) (length k) ≡ true → bytes_eq (unpacked (bits_of k)) k ≡ true → bits_of k ≡ packed k
  unfolding packed
  kept_as_bits h e = sym (cond-true (nat_lt (word_count k) (length k) && bytes_eq (unpacked (bits_of k)) k) (bits_of k) (1 ∷ k) (both (nat_lt (word_count k) (length k)) (bytes_eq (unpacked (bits_of k)) k) h e))

  pub kept_as_it_is : nat_lt (word_count k) (length k) ≡ false → 1 ∷ k ≡ packed k
  unfolding packed
  kept_as_it_is h = sym (cond-false (nat_lt (word_count k) (length k) && bytes_eq (unpacked (bits_of k)) k) (bits_of k) (1 ∷ k) (neither (nat_lt (word_count k) (length k)) (bytes_eq (unpacked (bits_of k)) k) h))

  pub kept_if_other : bytes_eq (unpacked (bits_of k)) k ≡ false → 1 ∷ k ≡ packed k
  unfolding packed
  kept_if_other h = sym (cond-false (nat_lt (word_count k) (length k) && bytes_eq (unpacked (bits_of k)) k) (bits_of k) (1 ∷ k) (not_second (nat_lt (word_count k) (length k)) (bytes_eq (unpacked (bits_of k)) k) h))

  -- what is kept says the key
  pub says : unpacked (packed k) ≡ k
  unfolding packed
  says = elim (cases_Bool (nat_lt (word_count k) (length k) && bytes_eq (unpacked (bits_of k)) k)) [
    | inl y ↦ ap unpacked (cond-true (nat_lt (word_count k) (length k) && bytes_eq (unpacked (bits_of k)) k) (bits_of k) (1 ∷ k) y)
        ∙ (bytes_decides (unpacked (bits_of k)) k).0 (second (nat_lt (word_count k) (length k)) (bytes_eq (unpacked (bits_of k)) k) y)
    | inr n ↦ ap unpacked (cond-false (nat_lt (word_count k) (length k) && bytes_eq (unpacked (bits_of k)) k) (bits_of k) (1 ∷ k) n)
  ]

-- what is kept for a key says it, and is kept so
pub says_key : (kept : List ℕ) (k : Key) → kept ≡ packed k → unpacked kept ≡ k
says_key kept k e = ap unpacked e ∙ says k

pub kept_so : (kept : List ℕ) (k : Key) → kept ≡ packed k → kept ≡ packed (unpacked kept)
kept_so kept k e = e ∙ ap packed (sym (says_key kept k e))

pub kept_of_push : (keys : List KeptKey) (k : KeptKey) → kept_in (keys ++ k ∷ []) ≡ kept_in keys ++ unpacked k.key.items ∷ []
kept_of_push [] k = refl
kept_of_push (x ∷ keys) k = ap (λ ks. unpacked x.key.items ∷ ks) (kept_of_push keys k)

pub kept_length : (keys : List KeptKey) → length (kept_in keys) ≡ length keys
kept_length [] = refl
kept_length (x ∷ keys) = ap suc (kept_length keys)

pub kept_at : (keys : List KeptKey) (i : ℕ) (k : KeptKey) → i < length keys → k ≡ get_or keys i k → slice_index_or (kept_in keys) i [] ≡ unpacked k.key.items
kept_at [] i k h e = absurd (omega arith)
kept_at (x ∷ keys) zero k h e = ap (λ (u : KeptKey). unpacked u.key.items) (sym e)
kept_at (x ∷ keys) (suc i) k h e = kept_at keys i k (omega arith) e
