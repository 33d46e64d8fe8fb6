-- The elements of a class.
use Rattle.std.proofs.Common.{◌≡◌, ℕ, false, List, [], ◌∷◌, length, Option, Some, None, refl, arith}
use Rattle.lexre_bytes.specs.Lexical.{span, bracketed_at, element_at, escape_at}
use Rattle.lexre_bytes.specs.Elements.{Element, is_range}
use Rattle.lex_semantics.specs.Escapes.{byte_with}

abbrev Found : Type 0
Found = Option (Element × List ℕ)

-- a byte that begins no range
pub lone_byte : (t rest : List ℕ) (low : ℕ) → ◌≡◌ {A = Found} (bracketed_at t) None → ◌≡◌ {A = Option (ℕ × List ℕ)} (byte_with escape_at t) (Some (low, rest))
    → is_range rest ≡ false → ◌≡◌ {A = Found} (element_at t) (Some (span low low, rest))
unfolding element_at
lone_byte t rest low e f g = rw (e, f, g) refl

pub no_range : (t : List ℕ) → length t ≡ 0 → is_range t ≡ false
no_range [] h = refl
no_range (c ∷ t) h = absurd (omega arith)
