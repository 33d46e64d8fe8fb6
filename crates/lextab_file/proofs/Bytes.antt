-- Lists of bytes, by recursion and by place.
use Rattle.std.proofs.Common.{ℕ, zero, suc, ◌<◌, List, [], ◌∷◌, get_or, take, drop, arith}
use Rattle.lex_semantics.specs.Text.{IsText}

pub text_from_places : (bytes : List ℕ) → ((i : ℕ) → get_or bytes i 0 < 256) → IsText bytes
text_from_places [] h = tt
text_from_places (b ∷ bytes) h = (h 0, text_from_places bytes (λ i. h (suc i)))

pub byte_fits : (bytes : List ℕ) → IsText bytes → (i : ℕ) → get_or bytes i 0 < 256
byte_fits [] h i = omega arith
byte_fits (b ∷ bytes) h zero = h.0
byte_fits (b ∷ bytes) h (suc i) = byte_fits bytes h.1 i

pub drop_text : (n : ℕ) (bytes : List ℕ) → IsText bytes → IsText (drop n bytes)
drop_text zero bytes h = h
drop_text (suc n) [] h = tt
drop_text (suc n) (b ∷ bytes) h = drop_text n bytes h.1

pub take_text : (n : ℕ) (bytes : List ℕ) → IsText bytes → IsText (take n bytes)
take_text zero bytes h = tt
take_text (suc n) [] h = tt
take_text (suc n) (b ∷ bytes) h = (h.0, take_text n bytes h.1)
