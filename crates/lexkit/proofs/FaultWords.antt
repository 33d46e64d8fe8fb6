-- The words of a refusal.
use Rattle.std.proofs.Common.{◌≡◌, refl, []}
use Rattle.lexspec.specs.Refusals.SpecErrorKind.{SpecErrorKind}
use Rattle.lexspec.specs.Refusals.SpecErrorKind.TheVariants as kinds
use Rattle.lexspec.specs.Refusals.PatternError.{PatternError}
use Rattle.lexkit.specs.Faults.{place_words}

-- only the refusal of a pattern has a place
pub place_words-other : (kind : SpecErrorKind) → ((e : PatternError) → kind ≡ kinds.Pattern e → ⊥) → place_words kind ≡ []
place_words-other (kinds.Pattern e) h = absurd (h e refl)
place_words-other _ h = refl
