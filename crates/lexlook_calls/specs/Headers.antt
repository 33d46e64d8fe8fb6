-- The rules of a specification as constants of a program. (An enum: ISO C, Enumeration specifiers; constants: the Rust
-- Reference, Constant items. What they are called is this project's.)
use Rattle.std.specs.Prelude.{ℕ, ◌==◌, if◌then◌else◌, List, [], ◌∷◌, ◌++◌, length, map, Result, Ok, Err, ◌≡◌, codes, decimal, slice_index_or}
use Rattle.std.specs.List.{concat, flat_map, position_or_len, range_with_len}
use Rattle.lex_io.specs.Sink.{Appended}
use Rattle.lex_names.specs.RuleNames.{rule_name}
use Rattle.lex_semantics.specs.ByteSets.{same_bytes}
use Rattle.lex_semantics.specs.Spec.{Spec, Rule}
use Rattle.lexkit.specs.Headline.{Refusal, reading}
use Rattle.lexkit.specs.declared.errors.GenError.{GenError}
use Rattle.lexkit.specs.declared.errors.GenError.TheVariants as gens
use Rattle.lexkit.specs.declared.options.Options.{Options}
use Rattle.lexspec.specs.Files.{SpellsSpec}
use Rattle.lexlook_calls.specs.declared.error.LookError.{LookError}
use Rattle.lexlook_calls.specs.declared.error.LookError.TheVariants.{Refused, Table, OutOfMemory, Write}
use Rattle.lexlook_calls.specs.declared.header.Language.{Language}
use Rattle.lexlook_calls.specs.declared.header.Language.TheVariants as languages

-- the one of two texts that a language has
abbrev pub in_language : Language → List ℕ → List ℕ → List ℕ
in_language languages.C c rust = c
in_language languages.Rust c rust = rust

-- A rule is called by its name, and without one by its line. What stands before a name keeps it from being a keyword.
abbrev pub called_by : ℕ → List ℕ → List ℕ
called_by line [] = codes "LINE_" ++ decimal line
called_by line (b ∷ name) = codes "RULE_" ++ b ∷ name

-- what the rules are called, in their order
abbrev pub called : List Rule → List (List ℕ)
called rules = map (λ r. called_by r.line (rule_name r.statements)) rules

-- the first rule that is called as this one is
abbrev pub first_called : List (List ℕ) → ℕ → ℕ
first_called names i = position_or_len (same_bytes (slice_index_or names i [])) names

-- the line of a constant
abbrev pub constant_line : Language → List ℕ → ℕ → List ℕ
constant_line l name n = concat (
    in_language l (codes "    ") (codes "pub const ")
    ∷ name
    ∷ in_language l (codes " = ") (codes ": u32 = ")
    ∷ decimal n
    ∷ in_language l (codes ",\n") (codes ";\n")
    ∷ [])

-- that of a rule: the first that is called so has one, and the others have none
abbrev pub rule_line : Language → List (List ℕ) → ℕ → List ℕ
rule_line l names i = if first_called names i == i then constant_line l (slice_index_or names i []) i else []

-- a number in a list
abbrev pub number_line : ℕ → List ℕ
number_line n = concat (codes "    " ∷ decimal n ∷ codes ",\n" ∷ [])

abbrev pub header_top : Language → List ℕ
header_top l = in_language l
    (codes "/* The rules of a specification, by `lexlook header`. */\n#pragma once\nenum lex_rule {\n")
    (codes "// The rules of a specification, by `lexlook header --rust`.\n")

-- for each rule the first one that is called as it is
abbrev pub first_rules : Language → List (List ℕ) → List ℕ
first_rules l names = concat (
    in_language l
    (codes "};\n\n/* For each rule the first one that is called as it is, and RULES for the default rule. */\n")
    (codes "\n/// For each rule the first one that is called as it is, and RULES for the default rule.\n")
    ∷ in_language l
    (codes "static const unsigned lex_first_rule[RULES + 1] = {\n")
    (codes "pub const FIRST_RULE: [u32; RULES as usize + 1] = [\n")
    ∷ flat_map (λ i. number_line (first_called names i)) (range_with_len 0 (length names))
    ∷ number_line (length names)
    ∷ in_language l (codes "};\n") (codes "];\n")
    ∷ [])

-- a constant for each rule that is the first of its name, and one for how many rules there are; then those first ones
abbrev pub header : Language → List (List ℕ) → List ℕ
header l names = concat (
    header_top l
    ∷ flat_map (rule_line l names) (range_with_len 0 (length names))
    ∷ constant_line l (codes "RULES") (length names)
    ∷ first_rules l names
    ∷ [])

-- the header of the specification that the text spells was written: all of it at `Ok`, a front of it at `Err`
pub record HeaderTold {K : Type 0} (wrote : K → List ℕ → K → Type 0) (options : Options) (l : Language)
    (text : List ℕ) (s t : K) (answer : Result (Unit {0}) LookError) : Type 0 where
  pub spec : Spec
  pub spells : SpellsSpec (reading options) text spec
  pub written : Appended (λ xs. wrote s xs t) (header l (called spec.rules)) answer

-- A text is refused by what reading it finds alone. A header needs no automaton, so no limit of one is passed.
abbrev pub ReadingRefusal : Options → List ℕ → GenError → Type 0
ReadingRefusal options text (gens.Spec e) = Refusal options text (gens.Spec e)
ReadingRefusal options text other = ⊥

-- What was told of a text. One that is refused leaves the sink as it was, and so does want of memory.
abbrev pub TellsHeader : {K : Type 0} → (K → List ℕ → K → Type 0) → Options → Language → List ℕ → K → K
    → Result (Unit {0}) LookError → Type 0
TellsHeader wrote options l text s t (Ok v) = HeaderTold wrote options l text s t (Ok v)
TellsHeader wrote options l text s t (Err Write) = HeaderTold wrote options l text s t (Err Write)
TellsHeader wrote options l text s t (Err OutOfMemory) = t ≡ s
TellsHeader wrote options l text s t (Err (Refused e)) = ReadingRefusal options text e × (t ≡ s)
TellsHeader wrote options l text s t (Err (Table e)) = ⊥
