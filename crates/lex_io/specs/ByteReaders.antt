-- What the reader with a buffer has read ahead, and what is left in it.
use Rattle.std.specs.Prelude.{◌≡◌, ℕ, min, Bool, true, List, [], ◌++◌, length, take, drop, nat_eq, Option, Result, MatchResult}
use Rattle.std.specs.Io.KnownBytes.{prepend_known}
use Rattle.std.proofs.lemmas.Bool.{eqb-true}
use Rattle.std.proofs.lemmas.List.{nil_from_length}
use Rattle.lex_io.specs.declared.byte_reader.ByteReader.{ByteReader}

-- the reader behind it
abbrev pub reader_behind : {R : Type 0} → ByteReader R → R
reader_behind r = r.reader

-- the bytes that were read and not given yet
abbrev pub bytes_ahead : {R : Type 0} → ByteReader R → List ℕ
bytes_ahead r = drop r.start r.buffer.items

-- whether there is no byte
abbrev pub is_none : List ℕ → Bool
is_none bytes = nat_eq (length bytes) 0

pub is_none-nil : (bytes : List ℕ) → is_none bytes ≡ true → bytes ≡ []
is_none-nil bytes e = nil_from_length bytes (eqb-true (length bytes) 0 e)

-- the bytes ahead and then those that are left in the reader behind, where they are known
abbrev pub bytes_left : {R : Type 0} → (R → Option (List ℕ)) → ByteReader R → Option (List ℕ)
bytes_left left r = prepend_known (bytes_ahead r) (left r.reader)

-- a read gave bytes that were ahead, as many as there were and there was room for, and did not touch the reader behind
abbrev pub GivesAhead : {R E : Type 0} → ByteReader R → ByteReader R → Result ℕ E → List ℕ → Type 0
GivesAhead old new result buf =
    (reader_behind new ≡ reader_behind old)
    × MatchResult result
    (λ n. (n ≡ min (length buf) (length (bytes_ahead old))) × (bytes_ahead old ≡ take n buf ++ bytes_ahead new))
    (λ _. ⊥)
