-- What a table file made into a buffer of the caller is. (Own.)
use Rattle.std.specs.Prelude.{◌≡◌, ℕ, List}
use Rattle.lex_semantics.specs.Spec.{Spec}
use Rattle.lexspec.specs.Files.{SpellsSpec}
use Rattle.lexre_bytes.specs.declared.refusals.SpecErrorKind.{SpecErrorKind}
use Rattle.lexre_bytes.specs.declared.refusals.SpecErrorKind.TheVariants as kinds
use Rattle.lexkit.specs.Canonical.{IsCanonical}
use Rattle.lexkit.specs.Headline.{Refusal, reading}
use Rattle.lexkit.specs.Faults.{line_of, gen_words, gen_status}
use Rattle.lexkit.specs.declared.options.Options.{Options}
use Rattle.lexkit.specs.declared.errors.GenError.{GenError}
use Rattle.lexkit.specs.declared.errors.GenError.TheVariants as gens
use Rattle.liblex_calls.specs.Buffers.{HandedOut, FitsInto, NothingOut}
use Rattle.liblex_calls.specs.Kinds.{kind_number, build_number}
use Rattle.liblex_calls.specs.declared.answer.Answer.{Answer}
use Rattle.liblex_calls.specs.declared.answer.Answer.TheVariants as answers
use Rattle.liblex_calls.specs.declared.generating.TextFault.{TextFault}

-- where in the rule's pattern the refusal is, or 0
abbrev pub place_of : SpecErrorKind → ℕ
place_of (kinds.Pattern e) = e.at
place_of other = 0

-- what a refusal is told as; where the automaton passes a limit no line is at fault
abbrev pub fault_of : GenError → TextFault
fault_of (gens.Spec e) = record { line = e.line; kind = kind_number e.kind; place = place_of e.kind }
fault_of (gens.Build e) = record { line = 0; kind = build_number e; place = 0 }
fault_of gens.OutOfMemory = record { line = 0; kind = 0; place = 0 }

-- no refusal
abbrev pub no_fault : TextFault
no_fault = record { line = 0; kind = 0; place = 0 }

-- The canonical file of the specification that the text spells was handed out.
pub record FileHandedOut (options : Options) (text old new : List ℕ) (count : ℕ) (fault : TextFault)
    (answer : Answer) : Type 0 where
  pub spec : Spec
  pub spells : SpellsSpec (reading options) text spec
  pub file : List ℕ
  pub canonical : IsCanonical spec file
  pub handed : HandedOut file old new count
  pub fits : FitsInto file old answer
  pub none : fault ≡ no_fault

-- The text is refused for this reason; the line of the program that tells it was handed out.
pub record RefusalHandedOut (options : Options) (text old new : List ℕ) (count : ℕ) (fault : TextFault) : Type 0 where
  pub error : GenError
  pub refusal : Refusal options text error
  pub status : gen_status error ≡ 65
  pub handed : HandedOut (line_of (gen_words error)) old new count
  pub told : fault ≡ fault_of error

-- a refusal was handed out, or there was no memory
abbrev pub RefusesWith : GenError → List ℕ → List ℕ → ℕ → TextFault → Answer → Type 0
RefusesWith error old new count fault answers.Refused =
    (gen_status error ≡ 65) × HandedOut (line_of (gen_words error)) old new count × (fault ≡ fault_of error)
RefusesWith error old new count fault answers.OutOfMemory = NothingOut old new count × (fault ≡ no_fault)
RefusesWith error old new count fault other = ⊥

-- What the call leaves, by what it answers.
abbrev pub Generates : Options → List ℕ → List ℕ → List ℕ → ℕ → TextFault → Answer → Type 0
Generates options text old new count fault answers.Done = FileHandedOut options text old new count fault answers.Done
Generates options text old new count fault answers.TooSmall =
    FileHandedOut options text old new count fault answers.TooSmall
Generates options text old new count fault answers.Refused = RefusalHandedOut options text old new count fault
Generates options text old new count fault answers.OutOfMemory = NothingOut old new count × (fault ≡ no_fault)
Generates options text old new count fault answers.Ended = ⊥
Generates options text old new count fault answers.Closed = ⊥
Generates options text old new count fault answers.More = ⊥
Generates options text old new count fault answers.Stack = ⊥
Generates options text old new count fault answers.TooManyReads = ⊥
