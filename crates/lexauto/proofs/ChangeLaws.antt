-- The bytes at which what a position reads changes.
use Rattle.std.proofs.Common.{◌≡◌, ℕ, zero, suc, ◌++◌, ◌+◌, ◌⊎◌, inl, inr, refl, ◌<◌, Bool, true, false, ◌&&◌, ◌||◌, List, [], ◌∷◌, length, sym, ap, ◌∙◌, arith}
use Rattle.std.specs.Prelude.{◌==◌, slice_index_or}
use Rattle.std.proofs.Math.Bool.{xor}
use Rattle.std.proofs.lemmas.Bool.{eqb-true, or_parts}
use Rattle.lex_semantics.specs.ByteSets.{ByteSet, has, empty_set, union}
use Rattle.lex_semantics.specs.Text.{flag}
use Rattle.lexre_bytes.proofs.SetLaws.{has-set_of}
use Rattle.lexauto_positions.specs.Letters.{reads_at}

pub has_nothing : (b : ℕ) → b < 256 → has empty_set b ≡ false
unfolding empty_set
has_nothing b lt = has-set_of (λ c. false) b lt

-- a byte that is in no union is in neither part
pub in_neither : (s t : ByteSet) (b : ℕ) → b < 256 → has (union s t) b ≡ false → (has s b ≡ false) × (has t b ≡ false)
unfolding union
in_neither s t b lt e = or_parts (has s b) (has t b) (sym (has-set_of (λ c. has s c || has t c) b lt) ∙ e)

-- no difference
pub same_if_none : (x y : Bool) → xor x y ≡ false → x ≡ y
unfolding xor
same_if_none true true h = refl
same_if_none true false h = h
same_if_none false true h = sym h
same_if_none false false h = refl

and_same : (x y t : Bool) → (t ≡ true → x ≡ y) → (x && t) ≡ (y && t)
and_same x y true h = ap (λ (z : Bool). z && true) (h (let e : true ≡ true = cc in e))
and_same true true false h = cc
and_same true false false h = cc
and_same false true false h = cc
and_same false false false h = cc

-- a position reads both bytes or neither, where its set has both or neither
pub reads_same : (letters : List ByteSet) (b c q base : ℕ)
    → ((i : ℕ) → i < length letters → q ≡ base + i → has (slice_index_or letters i empty_set) b ≡ has (slice_index_or letters i empty_set) c)
    → reads_at letters b q base ≡ reads_at letters c q base
reads_same [] b c q base h = cc
reads_same (s ∷ letters) b c q base h =
    let first = and_same (has s b) (has s c) (q == base) (λ e. h 0 (omega arith) (let at = eqb-true q base e in omega (arith, at))) in
    let others = reads_same letters b c q (base + 1) (λ i lt e. h (suc i) (omega (arith, lt)) (omega (arith, e))) in
    cc

-- a flag more is set, or one that was there
pub flag_push : (fs : List Bool) (x : Bool) (q : ℕ) → flag (fs ++ x ∷ []) q ≡ true → (flag fs q ≡ true) ⊎ ((q ≡ length fs) × (x ≡ true))
flag_push [] x zero h = inr (refl, h)
flag_push [] x (suc q) h = inl h
flag_push (f ∷ fs) x zero h = inl h
flag_push (f ∷ fs) x (suc q) h = elim (flag_push fs x q h) [ inl t ↦ inl t | inr r ↦ inr (ap suc r.0, r.1) ]
