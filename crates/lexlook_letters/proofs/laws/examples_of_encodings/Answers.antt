use Rattle.std.proofs.Common.{[], ◌∷◌, inl, inr, refl, arith}
use Rattle.lexlook_letters.specs.Apart.{AreApart}
use Rattle.lexlook_letters.specs.Encoding.{IsEncoded}
use Rattle.lexlook_letters.specs.EncodingExamples.{points_between}
use Rattle.lexlook_letters.proofs.laws.examples_of_encodings.Goals as goal

first_surrogate : IsEncoded 0xD800 → ⊥
first_surrogate (top, inl below) = omega arith
first_surrogate (top, inr above) = omega arith

last_surrogate : IsEncoded 0xDFFF → ⊥
last_surrogate (top, inl below) = omega arith
last_surrogate (top, inr above) = omega arith

beyond : IsEncoded 0x110000 → ⊥
beyond (top, h) = omega arith

pub returns-clause-encodings : goal.returns-clause-encodings
returns-clause-encodings c = (refl, refl, refl, refl, refl, refl, refl)

pub returns-clause-ends : goal.returns-clause-ends
returns-clause-ends c = (refl, refl, refl, refl, refl, refl, refl, refl)

pub returns-clause-surrogates : goal.returns-clause-surrogates
returns-clause-surrogates c = (
  (omega arith, inl (omega arith)),
  first_surrogate,
  last_surrogate,
  (omega arith, inr (omega arith)),
  (omega arith, inr (omega arith)),
  beyond,
)

touching : AreApart (points_between 0x41 0x43 ∷ points_between 0x44 0x46 ∷ []) → ⊥
touching (a, b, (c, d, e)) = omega arith

descending : AreApart (points_between 0x45 0x46 ∷ points_between 0x41 0x43 ∷ []) → ⊥
descending (a, b, (c, d, e)) = omega arith

empty : AreApart (points_between 0x43 0x41 ∷ []) → ⊥
empty (a, b, c) = omega arith

pub returns-clause-ranges : goal.returns-clause-ranges
returns-clause-ranges c = ((omega arith, omega arith, (omega arith, omega arith, tt)), touching, descending, empty)
