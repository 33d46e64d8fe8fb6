-- How many positions there are where a limit is passed, and which rule has the most. (This project's; lexauto builds an
-- automaton of the positions of rules.)
use Rattle.std.specs.Prelude.{◌≡◌, ℕ, ◌^◌, ◌==◌, nat_lt, min, if◌then◌else◌, List, [], ◌∷◌, ◌++◌, fold, map, Option, Some, None, codes, decimal}
use Rattle.std.specs.List.{concat}
use Rattle.lex_semantics.specs.Spec.{Spec, Rule}
use Rattle.lex_semantics.specs.Subsets.{all_positions, positions_of_rule}
use Rattle.lexspec.specs.Files.{SpellsSpec}
use Rattle.lexauto.specs.declared.error.BuildError.{BuildError}
use Rattle.lexauto.specs.declared.error.BuildError.TheVariants.{OutOfMemory, TooManyPositions, TooManyStates}
use Rattle.lexauto.specs.declared.subsets.Limits.{Limits}
use Rattle.lexkit.specs.Headline.{reading}
use Rattle.lexkit.specs.declared.options.Options.{Options}
use Rattle.lexlook_check.specs.Places.{file_line_words}
use Rattle.lexlook_check.specs.declared.findings.What.{What}
use Rattle.lexlook_check.specs.declared.findings.What.TheVariants.{Limit}
use Rattle.lexlook_check.specs.declared.places.SourceFile.{SourceFile}
use Rattle.lexlook_check.specs.declared.weights.RuleWeight.{RuleWeight}
use Rattle.lexlook_check.specs.declared.weights.Weights.{Weights}

-- a rule: its line, and how many positions it has, up to 2 ^ 32
abbrev pub rule_weight : Rule → RuleWeight
rule_weight r = record { line = r.line; positions = min (2 ^ 32) (positions_of_rule r) }

-- of two that which has more, and else the first
abbrev pub heavier : RuleWeight → RuleWeight → RuleWeight
heavier a b = if nat_lt a.positions b.positions then b else a

-- the first rule that has the most
abbrev pub heaviest : List Rule → RuleWeight
heaviest rules = fold heavier (record { line = 0; positions = 0 }) (map rule_weight rules)

-- how many positions or states are allowed, by which of them there are too many
abbrev pub allowed_by : Limits → BuildError → ℕ
allowed_by limits TooManyPositions = limits.positions
allowed_by limits TooManyStates = limits.states
allowed_by limits OutOfMemory = 0

-- so many are allowed, of rules that have so many positions together, up to 2 ^ 32
abbrev pub weights_of : ℕ → List Rule → Weights
weights_of allowed rules =
    record { allowed = allowed; all = min (2 ^ 32) (all_positions rules); heaviest = heaviest rules }

-- of the specification that the text spells
abbrev pub AreWeightsIn : Options → List ℕ → BuildError → Weights → Type 0
AreWeightsIn options text e w =
    (S : Spec) × SpellsSpec (reading options) text S × (w ≡ weights_of (allowed_by options.limits e) S.rules)

-- of the text that is left, where its automaton passes this limit
abbrev pub AreWeightsOf : Options → Option (List ℕ) → Option BuildError → Option Weights → Type 0
AreWeightsOf options (Some left) (Some e) (Some w) = AreWeightsIn options left e w
AreWeightsOf options (Some left) (Some e) None = ⊥
AreWeightsOf options (Some left) None w = w ≡ None
AreWeightsOf options None limit w = w ≡ None

-- a count that goes up to 2 ^ 32
abbrev pub count_words : ℕ → List ℕ
count_words n = if n == 4294967296 then codes "4294967296 or more" else decimal n

-- the rule that has the most, with its file and line
abbrev pub heaviest_words : List SourceFile → RuleWeight → List ℕ
heaviest_words files r =
    codes "the rule at " ++ file_line_words files r.line ++ codes " has the most positions, " ++ count_words r.positions

-- what is said of them
abbrev pub weight_words : List SourceFile → Option Weights → List ℕ
weight_words files None = []
weight_words files (Some w) =
    concat (decimal w.allowed ∷ codes " are allowed; " ∷ heaviest_words files w.heaviest ∷ codes " of "
    ∷ count_words w.all ∷ codes "; " ∷ [])

-- of a limit that is passed
abbrev pub limit_told : List SourceFile → What → List ℕ
limit_told files (Limit e weights) = weight_words files weights
limit_told files what = []
