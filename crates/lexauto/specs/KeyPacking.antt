-- Keys as they are kept: as they are, or the bits of the last positions, 32 in a number. The first number says which.
-- (This project's.)
use Rattle.std.specs.Prelude.{ℕ, zero, suc, ◌+◌, ◌-◌, ◌*◌, ◌/◌, ◌%◌, ◌^◌, ◌==◌, ◌&&◌, Bool, cond, List, [], ◌∷◌, length, map, min, nat_lt, bit_or, slice_index, slice_index_or, slice_set, Option}
use Rattle.std.proofs.Common.{replicate}
use Rattle.std.specs.Str.{bytes_eq}
use Rattle.lexauto.specs.Keys.{Key}
use Rattle.lexauto.specs.Interned.{found, no_key, row_of}
use Rattle.lexauto.specs.declared.interner.Interner.{Interner}
use Rattle.lexauto.specs.declared.interner.KeptKey.{KeptKey}
use Rattle.lexauto.specs.Sets.{lasts_in}
use Rattle.lex_semantics.specs.Text.{listed}

-- whether the position's bit is set
abbrev pub bit_at : List ℕ → ℕ → Bool
bit_at words p = slice_index words (p / 32) / 2 ^ (p % 32) % 2 == 1

-- how many positions a word has
unfoldable pub word_bits : ℕ
word_bits = 32

abbrev pub with_bit : List ℕ → ℕ → List ℕ
with_bit words p = slice_set words (p / 32) (bit_or (slice_index words (p / 32)) (2 ^ (p % 32)))

abbrev pub with_bits : List ℕ → List ℕ → List ℕ
with_bits words [] = words
with_bits words (p ∷ ps) = with_bits (with_bit words p) ps

-- how many of the bits are read: those of 16,384 positions at most
abbrev pub bit_count : List ℕ → ℕ
bit_count words = min (length words) 512 * 32

-- the key that is kept so
abbrev pub unpacked : List ℕ → Key
unpacked [] = []
unpacked (zero ∷ words) = 1 ∷ listed (bit_at words) 0 (bit_count words)
unpacked (suc plain ∷ k) = k

-- as many words as the last position of the key needs
abbrev pub word_count : Key → ℕ
word_count k = slice_index k (length k - 1) / 32 + 1

abbrev pub bits_of : Key → List ℕ
bits_of k = 0 ∷ with_bits (replicate (word_count k) 0) (lasts_in k)

-- how the key is kept: as bits where they are fewer and say the same
unfoldable pub packed : Key → List ℕ
packed k = cond (nat_lt (word_count k) (length k) && bytes_eq (unpacked (bits_of k)) k) (bits_of k) (1 ∷ k)

abbrev pub kept_in : List KeptKey → List Key
kept_in keys = map (λ k. unpacked k.key.items) keys

-- where the table finds a key
abbrev pub look_kept : Interner → Key → Option ℕ
look_kept t k = found t.keys.items (slice_index_or t.lasts.items (row_of (packed k)) no_key) (packed k)
