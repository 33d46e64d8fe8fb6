-- Where the tokens of a scan lie: a line for each, as they come. (POSIX, lex, Rules in lex: which matches these are;
-- the lines are this project's.)
use Rattle.std.specs.Prelude.{◌≡◌, ◌⊎◌, ℕ, ◌+◌, ◌-◌, Bool, List, [], ◌∷◌, Option, Some, None, Result, Ok, Err, codes, decimal, slice_index}
use Rattle.std.specs.List.{concat, flat_map}
use Rattle.lex_io.specs.Sink.{Appended}
use Rattle.lex_semantics.specs.Acting.{Status}
use Rattle.lex_semantics.specs.ByteSets.{bit_of}
use Rattle.lex_semantics.specs.Machine.{Machine, rules_of_machine}
use Rattle.lex_semantics.specs.Rules.{rules_of}
use Rattle.lex_semantics.specs.Spec.{Spec}
use Rattle.lex_semantics.specs.TableFor.{TableFor}
use Rattle.lex_semantics.specs.Text.{part}
use Rattle.lexspec.specs.Files.{SpellsSpec}
use Rattle.lexscan.specs.Pulls.{TokenisedSo}
use Rattle.lexscan.specs.declared.token.Token.{Token}
use Rattle.lexscan_window.specs.Reads.{read_fault_count, write_fault_count}
use Rattle.lexscan_window.specs.declared.error.RunError.{RunError}
use Rattle.lexscan_window.specs.declared.error.RunError.TheVariants as runs
use Rattle.lexscan_window.specs.declared.matched.MatchedRule.{MatchedRule}
use Rattle.lexscan_window.specs.declared.matched.MatchedRule.TheVariants.{Numbered, Default}
use Rattle.lexkit.specs.Generated.{lines_of}
use Rattle.lexkit.specs.Headline.{IsWithin, Refusal, reading}
use Rattle.lexkit.specs.declared.errors.ScanError.{ScanError}
use Rattle.lexkit.specs.declared.errors.ScanError.TheVariants.{Generate, Run, Table}
use Rattle.lexkit.specs.declared.options.Options.{Options}
use Rattle.lexlook_specs.specs.Pictures.{in_quotes}
use Rattle.lexlook_counts.specs.CountLines.{counted_subject}
use Rattle.lexlook_counts.specs.Reading.{AreFirst, FaultsSo, HasRead, HasReadAll}
use Rattle.lexlook_counts.specs.declared.lines.LineKind.TheVariants as kinds
use Rattle.lexlook_counts.specs.declared.lines.Subject.{Subject}
use Rattle.lexlook_counts.specs.declared.lines.Subject.TheVariants.{Line, DefaultRule}
use Rattle.lexlook_counts.specs.declared.places.Placer.{Placer}

-- a rule by its line in the file, or the default rule
abbrev pub subject_of : List ℕ → MatchedRule → Subject
subject_of lines (Numbered i) = Line (slice_index lines i)
subject_of lines Default = DefaultRule

-- The line of a token: where its text begins in the input, how many bytes it has, its rule, and the text as it is
-- spelled in a quoted string of a pattern.
abbrev pub offset_line : List ℕ → Token → List ℕ → List ℕ
offset_line lines t text = concat (
    decimal t.start ∷ codes " " ∷ decimal (t.end - t.start) ∷ codes " "
    ∷ counted_subject kinds.Matched (subject_of lines t.rule)
    ∷ codes " \"" ∷ flat_map in_quotes text ∷ codes "\"\n" ∷ [])

-- the lines of the tokens of an input
abbrev pub offset_lines : List ℕ → List ℕ → List Token → List ℕ
offset_lines lines x tokens = flat_map (λ t. offset_line lines t (part x t.start t.end)) tokens

-- after a fault the lines were written, but for a write fault, which leaves a front of them
abbrev pub Left : (List ℕ → Type 0) → List ℕ → RunError → Type 0
Left wrote bytes runs.Write = Appended {T = ℕ} wrote bytes (Err runs.Write)
Left wrote bytes e = wrote bytes

-- why a line was not written: memory ran out, and nothing was, or the sink failed behind a front of it
abbrev pub IsPlacingFault : {B : Type 0} → (B → List ℕ → B → Type 0) → List ℕ → B → B → RunError → Type 0
IsPlacingFault wrote line t t' e =
    ((e ≡ runs.OutOfMemory) × (t' ≡ t))
    ⊎ ((e ≡ runs.Write) × Appended {T = ℕ} (λ xs. wrote t xs t') line (Err runs.Write))

-- What the calls of a source from s to s' gave, and what those of a sink from t to t' wrote; how often each failed.
module _ {A B : Type 0} (gave : A → List ℕ → A → Type 0) (ends_of reads_of : A → ℕ)
    (wrote : B → List ℕ → B → Type 0) (writes_of : B → ℕ) (M : Machine) (lines : List ℕ)
    (s s' : A) (t t' : B) where
  -- the lines of the tokens that were told so far were written
  pub record HasPlaced (p : Placer) : Type 0 where
    pub given : List ℕ
    pub tokens : List Token
    pub read : HasRead gave ends_of reads_of M s s' given tokens p.reader
    pub written : wrote t (offset_lines lines given tokens) t'
    pub writes : writes_of t' ≡ writes_of t

  -- the lines of all tokens were written, and the scan ends with this status
  pub record PlacesAll (status : ℕ) : Type 0 where
    pub given : List ℕ
    pub at_end : Bool
    pub tokens : List Token
    pub read : HasReadAll gave ends_of reads_of M s s' given at_end tokens status
    pub written : wrote t (offset_lines lines given tokens) t'
    pub writes : writes_of t' ≡ writes_of t

  -- It stopped before the end. The tokens so far are those of the first turns, and their lines were written.
  pub record PlacingStops (e : RunError) : Type 0 where
    pub given : List ℕ
    pub at_end : Bool
    pub tokens : List Token
    pub source : gave s given s'
    pub ends : ends_of s' ≡ ends_of s + bit_of at_end
    pub first : AreFirst (rules_of_machine M) given at_end tokens
    pub written : Left (λ xs. wrote t xs t') (offset_lines lines given tokens) e
    pub stack : e ≡ runs.Stack → FaultsSo gave ends_of M s s'
    pub reads : reads_of s' ≡ reads_of s + read_fault_count {T = ℕ} (Err e)
    pub writes : writes_of t' ≡ writes_of t + write_fault_count {T = ℕ} (Err e)

  -- what one step leaves, and what all leave
  abbrev pub PlacesOn : Placer → Result (Option ℕ) RunError → Type 0
  PlacesOn p (Ok None) = HasPlaced p
  PlacesOn p (Ok (Some status)) = PlacesAll status
  PlacesOn p (Err e) = PlacingStops e

  abbrev pub PlacesSource : Result ℕ RunError → Type 0
  PlacesSource (Ok status) = PlacesAll status
  PlacesSource (Err e) = PlacingStops e

-- The same, where a text is the specification.
module _ {A B : Type 0} (gave : A → List ℕ → A → Type 0) (ends_of : A → ℕ) (wrote : B → List ℕ → B → Type 0)
    (s s' : A) (t t' : B) (options : Options) (text : List ℕ) where
  -- Of each input that goes on as what the source gave these are all tokens, by the specification that the text
  -- spells. Their lines were written.
  pub record PlacesTold (status : ℕ) : Type 0 where
    pub spec : Spec
    pub spells : SpellsSpec (reading options) text spec
    pub within : IsWithin options.limits spec
    pub given : List ℕ
    pub at_end : Bool
    pub tokens : List Token
    pub source : gave s given s'
    pub ends : ends_of s' ≡ ends_of s + bit_of at_end
    pub all : TokenisedSo (rules_of spec) given at_end tokens (Status status)
    pub written : wrote t (offset_lines (lines_of spec.rules) given tokens) t'

  -- The scan stopped, by a table for the specification. The lines of the tokens of its first turns were written.
  pub record PlacesStopped (e : RunError) : Type 0 where
    pub spec : Spec
    pub spells : SpellsSpec (reading options) text spec
    pub within : IsWithin options.limits spec
    pub machine : Machine
    pub table : TableFor machine spec
    pub given : List ℕ
    pub at_end : Bool
    pub tokens : List Token
    pub source : gave s given s'
    pub ends : ends_of s' ≡ ends_of s + bit_of at_end
    pub first : AreFirst (rules_of_machine machine) given at_end tokens
    pub written : Left (λ xs. wrote t xs t') (offset_lines (lines_of spec.rules) given tokens) e
    pub stack : e ≡ runs.Stack → FaultsSo gave ends_of machine s s'

  -- A text that is refused leaves both ends as they were.
  abbrev pub TellsPlaces : Result ℕ ScanError → Type 0
  TellsPlaces (Ok status) = PlacesTold status
  TellsPlaces (Err (Run e)) = PlacesStopped e
  TellsPlaces (Err (Generate e)) = Refusal options text e × (s' ≡ s) × (t' ≡ t)
  TellsPlaces (Err (Table e)) = ⊥
