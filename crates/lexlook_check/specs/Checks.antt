-- What is found of a text. (This project's.)
use Rattle.std.specs.Prelude.{◌≡◌, ◌≢◌, ◌↔◌, ℕ, ◌==◌, ◌&&◌, not, Bool, true, List, [], length, map, take, Option, Some, None, is_none, Ok}
use Rattle.std.specs.List.{list_any}
use Rattle.lex_semantics.specs.Spec.{Spec}
use Rattle.lexspec.specs.Files.{SpellsSpec}
use Rattle.lexauto.specs.declared.error.BuildError.{BuildError}
use Rattle.lexauto.specs.declared.error.BuildError.TheVariants as builds
use Rattle.lexauto_reports.specs.declared.warned.Warning.{Warning}
use Rattle.lexkit.specs.Generated.{MakesTables, lines_of}
use Rattle.lexkit.specs.Headline.{IsWithin, Refusal, reading}
use Rattle.lexkit.specs.declared.errors.GenError.TheVariants as gens
use Rattle.lexkit.specs.declared.making.Made.{Made}
use Rattle.lexkit.specs.declared.options.Options.{Options}
use Rattle.lexlook_specs.specs.Copied.{AreCopied}
use Rattle.lexlook_specs.specs.Matches.{matches_of}
use Rattle.lexlook_specs.specs.Rejecting.{rejecting}
use Rattle.lexlook_specs.specs.Words.{AreWords}
use Rattle.lexlook_specs.specs.declared.words.finding.Words.{Words}
use Rattle.lexlook_check.specs.Copies.{CopiesNothing, asked_copies, warned_bytes}
use Rattle.lexlook_check.specs.Finding.{AreFaultsOf, ReadsSpec, max_faults}
use Rattle.lexlook_check.specs.Notices.{max_notices, notices_of}
use Rattle.lexlook_check.specs.Takings.{TakenTexts, takings_of, taking_of}
use Rattle.lexlook_check.specs.Weights.{AreWeightsOf}
use Rattle.lexlook_check.specs.declared.checking.Checked.{Checked}
use Rattle.lexlook_check.specs.declared.findings.Finding.{Finding}
use Rattle.lexlook_check.specs.declared.notices.Notice.{Notice}

-- of the specification that the text spells: for each condition the first byte that the default rule copies in it
abbrev pub AreCopiedOf : Options → List ℕ → List (Option ℕ) → Type 0
AreCopiedOf options text bytes = (S : Spec) × SpellsSpec (reading options) text S × AreCopied (matches_of S) bytes

-- what is warned of in a text that spells this specification: 100 places of that at most; and where the default rule
-- copies, where `strict` says that it is not to
abbrev pub IsNoted : ℕ → Bool → Bool → List ℕ → Spec → List (Option ℕ) → List ℕ → List Notice → List Finding → Type 0
IsNoted own strict faultless whole S copied text notices copies =
    (notices ≡ take max_notices (notices_of own faultless whole S (warned_bytes strict copied) text))
    × (copies ≡ asked_copies strict faultless S copied text)

-- The same of the text that is left, beside what lex warns of. Where no rule was left out, what the default rule copies
-- is known.
abbrev pub AreNoticesOf : Options → ℕ → Bool → Bool → List ℕ → List ℕ → List Notice → List Finding → Type 0
AreNoticesOf options own strict faultless whole left notices copies =
    (S : Spec) × SpellsSpec (reading options) left S
    × (copied : List (Option ℕ)) × (faultless ≡ true → AreCopied (matches_of S) copied)
    × IsNoted own strict faultless whole S copied left notices copies

-- some rule that cannot be matched is warned of
abbrev pub has_useless : List Warning → Bool
has_useless ws = list_any (λ w. not w.code) ws

-- of the rules of a specification by which the texts are taken of those that take none: where each action is REJECT
-- each text that fits is taken
abbrev pub AreTakingsIn : Spec → List TakenTexts → Type 0
AreTakingsIn S ts =
    (v fits : Words) × AreWords (matches_of S) v × AreWords (matches_of (rejecting S)) fits
    × (ts ≡ takings_of (lines_of S.rules) v.rules.items fits.rules.items)

-- the same of the specification that the text spells, where that is asked for
abbrev pub AreTakingsOf : Options → List ℕ → Bool → List TakenTexts → Type 0
AreTakingsOf options text asked ts =
    asked ≡ true → (S : Spec) × SpellsSpec (reading options) text S × AreTakingsIn S ts

-- of the text that is left: the limit that its automaton passes, or else its warnings, and what is warned of beside
-- them
abbrev pub IsFoundOf : Options → ℕ → Bool → Bool → List ℕ → Option (List ℕ) → Option BuildError → List Warning
    → List TakenTexts → List Notice → List Finding → Type 0
IsFoundOf options own strict faultless whole None limit warnings takings notices copies =
    (limit ≡ None) × (warnings ≡ []) × (notices ≡ []) × (copies ≡ [])
IsFoundOf options own strict faultless whole (Some left) (Some e) warnings takings notices copies =
    (e ≢ builds.OutOfMemory) × Refusal options left (gens.Build e) × (warnings ≡ []) × (notices ≡ []) × (copies ≡ [])
IsFoundOf options own strict faultless whole (Some left) None warnings takings notices copies =
    (m : Made) × MakesTables options left (Ok m) × (warnings ≡ m.warnings.items)
    × AreTakingsOf options left (has_useless m.warnings.items) takings
    × AreNoticesOf options own strict faultless whole left notices copies

-- the faults of a text, and what is found of the text that is left without them: what is defined before the line `own`
-- is there for others, and no byte is to be copied where `strict`; and how many positions there are, where a limit is
-- passed
pub record IsChecked (options : Options) (own : ℕ) (strict : Bool) (text : List ℕ) (c : Checked) : Type 0 where
  pub left : Option (List ℕ)
  pub faults : AreFaultsOf (ReadsSpec (reading options)) max_faults text c.faults.items left
  pub found : IsFoundOf options own strict (length c.faults.items == 0) text left c.limit c.warnings.items
      (map taking_of c.takings.items) c.notices.items c.copies.items
  pub weights : AreWeightsOf options left c.limit c.weights

-- no fault was found, no limit, and no byte that is copied where none is to be
abbrev pub is_well : Checked → Bool
is_well c = (length c.faults.items == 0) && is_none c.limit && (length c.copies.items == 0)

-- the text spells a specification whose automaton is within the limits, and in which no byte is copied where `strict`
abbrev pub IsAllWell : Options → Bool → List ℕ → Type 0
IsAllWell options strict text =
    (S : Spec) × SpellsSpec (reading options) text S × IsWithin options.limits S × (strict ≡ true → CopiesNothing S)

-- nothing was found just of such a text
abbrev pub NothingToldJustOf : Type 0
NothingToldJustOf = (options : Options) (own : ℕ) (strict : Bool) (text : List ℕ) (c : Checked)
    → IsChecked options own strict text c → (is_well c ≡ true) ↔ IsAllWell options strict text
