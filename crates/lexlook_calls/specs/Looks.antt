-- What is shown of a specification. (This project's.)
use Rattle.std.specs.Prelude.{◌≡◌, ℕ, List, map, Result, Ok, Err}
use Rattle.lex_io.specs.Sink.{Appended}
use Rattle.lex_semantics.specs.Spec.{Spec, Condition}
use Rattle.lexspec.specs.Files.{SpellsSpec}
use Rattle.lexauto_dfa.specs.declared.dfa.Dfa.{Dfa}
use Rattle.lexauto.specs.declared.subsets.Limits.{Limits}
use Rattle.lexkit.specs.Generated.{lines_of}
use Rattle.lexkit.specs.LeastAutomata.{IsLeastOf}
use Rattle.lexkit.specs.Headline.{Refusal, reading}
use Rattle.lexkit.specs.declared.options.Options.{Options}
use Rattle.lexlook_specs.specs.Pictures.{picture}
use Rattle.lexlook_calls.specs.declared.error.LookError.{LookError}
use Rattle.lexlook_calls.specs.declared.error.LookError.TheVariants.{Refused, Table, OutOfMemory, Write}

abbrev pub names_of : List Condition → List (List ℕ)
names_of conditions = map (λ c. c.name) conditions

-- the picture of an automaton, with the names and lines of a specification
abbrev pub picture_of : Dfa → Spec → List ℕ
picture_of d S = picture d (names_of S.conditions) (lines_of S.rules)

-- the picture of the least automaton of a specification, which is within the limits
pub record IsPictureOf (limits : Limits) (S : Spec) (bytes : List ℕ) : Type 0 where
  pub automaton : Dfa
  pub subsets : ℕ
  pub least : IsLeastOf limits S subsets automaton
  pub drawn : bytes ≡ picture_of automaton S

-- the picture of the specification that the text spells was written: all of it at `Ok`, a front of it at `Err`
pub record Drew {K : Type 0} (wrote : K → List ℕ → K → Type 0) (options : Options) (text : List ℕ) (s t : K)
    (answer : Result (Unit {0}) LookError) : Type 0 where
  pub spec : Spec
  pub spells : SpellsSpec (reading options) text spec
  pub bytes : List ℕ
  pub is_picture : IsPictureOf options.limits spec bytes
  pub written : Appended (λ xs. wrote s xs t) bytes answer

-- What was drawn of a text. One that is refused leaves the sink as it was.
abbrev pub Draws : {K : Type 0} → (K → List ℕ → K → Type 0) → Options → List ℕ → K → K → Result (Unit {0}) LookError
    → Type 0
Draws wrote options text s t (Ok v) = Drew wrote options text s t (Ok v)
Draws wrote options text s t (Err (Refused e)) = Refusal options text e × (t ≡ s)
Draws wrote options text s t (Err (Table e)) = ⊥
Draws wrote options text s t (Err OutOfMemory) = Drew wrote options text s t (Err OutOfMemory)
Draws wrote options text s t (Err Write) = Drew wrote options text s t (Err Write)

-- a specification has one picture at most
abbrev pub OnePicture : Type 0
OnePicture =
    (limits limits' : Limits) (S : Spec) (a b : List ℕ) → IsPictureOf limits S a → IsPictureOf limits' S b → a ≡ b
