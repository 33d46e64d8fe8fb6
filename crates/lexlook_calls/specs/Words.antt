-- What is told of the texts that rules take. (flex tells of a rule that cannot be matched, and by -s of a default rule
-- that can be.)
use Rattle.std.specs.Prelude.{◌≡◌, ℕ, ◌<◌, ⊤, List, [], ◌∷◌, ◌++◌, length, Option, Some, None, Result, Ok, Err, codes, decimal, slice_get, slice_index, slice_index_or}
use Rattle.std.specs.List.{concat, flat_map, range_with_len}
use Rattle.lex_io.specs.Sink.{Appended}
use Rattle.lex_semantics.specs.Spec.{Spec}
use Rattle.lex_semantics.specs.Text.{Among}
use Rattle.lexspec.specs.Files.{SpellsSpec}
use Rattle.lexauto.specs.declared.subsets.Limits.{Limits}
use Rattle.lexkit.specs.Generated.{lines_of}
use Rattle.lexkit.specs.Headline.{IsWithin, Refusal, reading}
use Rattle.lexkit.specs.declared.options.Options.{Options}
use Rattle.lexlook_specs.specs.Matches.{matches_of}
use Rattle.lexlook_specs.specs.Pictures.{in_quotes}
use Rattle.lexlook_specs.specs.Words.{AreWords}
use Rattle.lexlook_specs.specs.declared.words.finding.ShownText.{ShownText}
use Rattle.lexlook_specs.specs.declared.words.finding.Word.{Word}
use Rattle.lexlook_specs.specs.declared.words.finding.Word.TheVariants.{Taken, Never}
use Rattle.lexlook_specs.specs.declared.words.finding.Words.{Words}
use Rattle.lexlook_calls.specs.Looks.{names_of}
use Rattle.lexlook_calls.specs.Lines.{start_words}
use Rattle.lexlook_calls.specs.declared.error.LookError.{LookError}
use Rattle.lexlook_calls.specs.declared.error.LookError.TheVariants.{Refused, Table, OutOfMemory, Write}

-- a rule by its line in the file
abbrev pub line_words : List ℕ → ℕ → List ℕ
line_words lines i = codes " line " ++ decimal (slice_index lines i)

-- a text, in which condition, and where a match of it is at the start of a line
abbrev pub shown_place : List (List ℕ) → ShownText → List ℕ
shown_place names p = concat (
    codes ": \"" ∷ flat_map in_quotes p.text.items ∷ codes "\" in " ∷ slice_index_or names p.condition []
    ∷ start_words p.line_start
    ∷ codes "\n" ∷ [])

-- why a rule takes no text
abbrev pub never_words : List ℕ → List ℕ → List ℕ
never_words lines [] = codes ": rule cannot be matched, no text fits it\n"
never_words lines (j ∷ js) =
    concat (codes ": rule cannot be matched, its texts are taken at" ∷ flat_map (line_words lines) (j ∷ js) ∷ codes "\n"
    ∷ [])

abbrev pub told_words : List (List ℕ) → List ℕ → Word → List ℕ
told_words names lines (Taken p) = shown_place names p
told_words names lines (Never js) = never_words lines js.items

-- the line of a rule
abbrev pub word_line : List (List ℕ) → List ℕ → ℕ → Option Word → List ℕ
word_line names lines i None = []
word_line names lines i (Some x) = concat (codes "at" ∷ line_words lines i ∷ told_words names lines x ∷ [])

-- the line of the default rule in a condition
abbrev pub default_line : List (List ℕ) → ℕ → Option (Option ShownText) → List ℕ
default_line names c None = []
default_line names c (Some None) =
    concat (codes "default rule cannot be matched in " ∷ slice_index_or names c [] ∷ codes "\n" ∷ [])
default_line names c (Some (Some p)) = codes "default rule" ++ shown_place names p

-- a line for each rule, in the order of the file
abbrev pub lines_of_rules : List (List ℕ) → List ℕ → List Word → List ℕ
lines_of_rules names lines ws =
    flat_map (λ i. word_line names lines i (slice_get ws i)) (range_with_len 0 (length ws))

-- a line of the default rule for each condition
abbrev pub lines_of_default : List (List ℕ) → List (Option ShownText) → List ℕ
lines_of_default names ps =
    flat_map (λ c. default_line names c (slice_get ps c)) (range_with_len 0 (length ps))

-- all of them
abbrev pub word_lines : List (List ℕ) → List ℕ → Words → List ℕ
word_lines names lines v = lines_of_rules names lines v.rules.items ++ lines_of_default names v.defaults.items

-- the texts that the rules of a specification take, whose automaton is within the limits
pub record AreWordsOf (limits : Limits) (S : Spec) (v : Words) : Type 0 where
  pub within : IsWithin limits S
  pub words : AreWords (matches_of S) v

-- the lines of the specification that the text spells were written: all of them at `Ok`, a front of them at `Err`
pub record WordsTold {K : Type 0} (wrote : K → List ℕ → K → Type 0) (options : Options) (text : List ℕ) (s t : K)
    (answer : Result (Unit {0}) LookError) : Type 0 where
  pub spec : Spec
  pub spells : SpellsSpec (reading options) text spec
  pub found : Words
  pub are_words : AreWordsOf options.limits spec found
  pub written : Appended (λ xs. wrote s xs t) (word_lines (names_of spec.conditions) (lines_of spec.rules) found) answer

-- What was told of a text. One that is refused leaves the sink as it was, and so does want of memory.
abbrev pub TellsWords : {K : Type 0} → (K → List ℕ → K → Type 0) → Options → List ℕ → K → K
    → Result (Unit {0}) LookError → Type 0
TellsWords wrote options text s t (Ok v) = WordsTold wrote options text s t (Ok v)
TellsWords wrote options text s t (Err Write) = WordsTold wrote options text s t (Err Write)
TellsWords wrote options text s t (Err OutOfMemory) = t ≡ s
TellsWords wrote options text s t (Err (Refused e)) = Refusal options text e × (t ≡ s)
TellsWords wrote options text s t (Err (Table e)) = ⊥

-- what is named has a name, and what is at a line has one
abbrev pub HasLabels : List (List ℕ) → List ℕ → Word → Type 0
HasLabels names lines (Taken p) = p.condition < length names
HasLabels names lines (Never js) = (j : ℕ) → Among js.items j → j < length lines

abbrev pub HasLabel : List (List ℕ) → Option ShownText → Type 0
HasLabel names None = ⊤
HasLabel names (Some p) = p.condition < length names

pub record AreLabelled (names : List (List ℕ)) (lines : List ℕ) (v : Words) : Type 0 where
  pub each : length v.rules.items ≡ length lines
  pub rules : (i : ℕ) (x : Word) → slice_get v.rules.items i ≡ Some x → HasLabels names lines x
  pub in_each : length v.defaults.items ≡ length names
  pub defaults : (c : ℕ) (o : Option ShownText) → slice_get v.defaults.items c ≡ Some o → HasLabel names o
