-- What is told of pairs of rules that fit one text with the same length. (POSIX, lex, Actions in lex: of these the rule
-- that was given first is chosen; the lines are this project's.)
use Rattle.std.specs.Prelude.{◌≡◌, ℕ, ◌<◌, Bool, true, false, List, [], ◌∷◌, ◌++◌, length, Some, Result, Ok, Err, codes, slice_get, nat_le, if◌then◌else◌}
use Rattle.std.specs.List.{concat, flat_map}
use Rattle.lex_io.specs.Sink.{Appended}
use Rattle.lex_semantics.specs.Spec.{Spec}
use Rattle.lexspec.specs.Files.{SpellsSpec}
use Rattle.lexauto.specs.declared.subsets.Limits.{Limits}
use Rattle.lexkit.specs.Generated.{lines_of}
use Rattle.lexkit.specs.Headline.{IsWithin, Refusal, reading}
use Rattle.lexkit.specs.declared.options.Options.{Options}
use Rattle.lexlook_specs.specs.Matches.{matches_of}
use Rattle.lexlook_specs.specs.Overlaps.{AreOverlaps}
use Rattle.lexlook_specs.specs.Pictures.{in_quotes}
use Rattle.lexlook_specs.specs.declared.words.overlapping.Home.{Home}
use Rattle.lexlook_specs.specs.declared.words.overlapping.Home.TheVariants.{Nowhere, AtLineStart, Anywhere}
use Rattle.lexlook_specs.specs.declared.words.overlapping.Overlap.{Overlap}
use Rattle.lexlook_calls.specs.Looks.{names_of}
use Rattle.lexlook_calls.specs.Lines.{start_words}
use Rattle.lexlook_calls.specs.Words.{line_words}
use Rattle.lexlook_calls.specs.declared.error.LookError.{LookError}
use Rattle.lexlook_calls.specs.declared.error.LookError.TheVariants.{Refused, Table, OutOfMemory, Write}

-- how many pairs are told at most
abbrev pub max_pairs : ℕ
max_pairs = 10000

-- a condition by its name, if two rules share a text there, and where they do so at the start of a line alone
abbrev pub in_condition : List ℕ → Home → List ℕ
in_condition name Nowhere = []
in_condition name AtLineStart = concat (codes ", in " ∷ name ∷ start_words true ∷ [])
in_condition name Anywhere = concat (codes ", in " ∷ name ∷ start_words false ∷ [])

-- all of them, in the order of the file
abbrev pub in_conditions : List (List ℕ) → List Home → List ℕ
in_conditions (name ∷ names) (h ∷ hs) = in_condition name h ++ in_conditions names hs
in_conditions names hs = []

-- the two rules
abbrev pub pair_words : List ℕ → ℕ → ℕ → List ℕ
pair_words lines i j = concat (codes "at" ∷ line_words lines i ∷ codes " and" ∷ line_words lines j ∷ [])

-- the text that they share, and where they do
abbrev pub shared_words : List (List ℕ) → Overlap → List ℕ
shared_words names x = concat (
    codes ": \"" ∷ flat_map in_quotes x.text.items ∷ codes "\"" ∷ in_conditions names x.homes.items ∷ [])

-- whether the rule that wins gives the text up then
abbrev pub reject_words : Bool → List ℕ
reject_words true = codes " wins, with REJECT\n"
reject_words false = codes " wins\n"

-- which of them wins
abbrev pub winner_words : List ℕ → Overlap → List ℕ
winner_words lines x = concat (codes ";" ∷ line_words lines x.first ∷ reject_words x.gives_up ∷ [])

-- the line of a pair
abbrev pub overlap_line : List (List ℕ) → List ℕ → Overlap → List ℕ
overlap_line names lines x =
    concat (pair_words lines x.first x.second ∷ shared_words names x ∷ winner_words lines x ∷ [])

-- where as many pairs are told as may be
abbrev pub limit_words : ℕ → List ℕ
limit_words n = if nat_le max_pairs n then codes "no more than 10000 pairs are told\n" else []

-- all lines
abbrev pub overlap_lines : List (List ℕ) → List ℕ → List Overlap → List ℕ
overlap_lines names lines v = flat_map (overlap_line names lines) v ++ limit_words (length v)

-- the pairs of a specification that share a text, whose automaton is within the limits
pub record AreOverlapsOf (limits : Limits) (S : Spec) (v : List Overlap) : Type 0 where
  pub within : IsWithin limits S
  pub overlaps : AreOverlaps (matches_of S) max_pairs v

-- the lines of the specification that the text spells were written: all of them at `Ok`, a front of them at `Err`
pub record OverlapsTold {K : Type 0} (wrote : K → List ℕ → K → Type 0) (options : Options) (text : List ℕ) (s t : K)
    (answer : Result (Unit {0}) LookError) : Type 0 where
  pub spec : Spec
  pub spells : SpellsSpec (reading options) text spec
  pub found : List Overlap
  pub are_overlaps : AreOverlapsOf options.limits spec found
  pub written : Appended (λ xs. wrote s xs t)
      (overlap_lines (names_of spec.conditions) (lines_of spec.rules) found) answer

-- What was told of a text. One that is refused leaves the sink as it was, and so does want of memory.
abbrev pub TellsOverlaps : {K : Type 0} → (K → List ℕ → K → Type 0) → Options → List ℕ → K → K
    → Result (Unit {0}) LookError → Type 0
TellsOverlaps wrote options text s t (Ok v) = OverlapsTold wrote options text s t (Ok v)
TellsOverlaps wrote options text s t (Err Write) = OverlapsTold wrote options text s t (Err Write)
TellsOverlaps wrote options text s t (Err OutOfMemory) = t ≡ s
TellsOverlaps wrote options text s t (Err (Refused e)) = Refusal options text e × (t ≡ s)
TellsOverlaps wrote options text s t (Err (Table e)) = ⊥

-- what is named has a name, and what is at a line has one
pub record HasPairLabels (names : List (List ℕ)) (lines : List ℕ) (x : Overlap) : Type 0 where
  pub first : x.first < length lines
  pub second : x.second < length lines
  pub homes : length x.homes.items ≡ length names

abbrev pub ArePairLabels : List (List ℕ) → List ℕ → List Overlap → Type 0
ArePairLabels names lines v = (k : ℕ) (x : Overlap) → slice_get v k ≡ Some x → HasPairLabels names lines x
