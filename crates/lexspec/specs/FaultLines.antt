-- The first faulty line of a rules section: that of the first item that may not stand behind those before it.
-- (Which of several faults is told is this project's.)
use Rattle.std.specs.Prelude.{◌≡◌, ◌≢◌, ◌↔◌, ℕ, ◌+◌, ◌-◌, ◌<◌, ◌≤◌, Bool, true, false, ◌||◌, List, [], ◌∷◌, ◌++◌, ◌⊎◌, map, filter, length, codes}
use Rattle.std.specs.FinMap.{from_entries}
use Rattle.std.specs.List.{list_all}
use Rattle.lex_semantics.specs.Limits.{max_conditions, max_file_bytes, max_rules}
use Rattle.lex_semantics.specs.Reading.{IsReadAs, begins}
use Rattle.lex_semantics.specs.Spec.{Rule}
use Rattle.lex_semantics.specs.Text.{Pairwise}
use Rattle.lexre.specs.Definitions.{Definitions}
use Rattle.lexre.specs.declared.options.ReadOptions.{ReadOptions}
use Rattle.lexre_bytes.specs.declared.refusals.SpecError.{SpecError}
use Rattle.lexre_bytes.specs.declared.refusals.SpecErrorKind.TheVariants.{DanglingBar, TooLong}
use Rattle.lexspec.specs.Files.{AreSingle}
use Rattle.lexspec.specs.Items.{Item, IsLine, rule, matching}
use Rattle.lexspec.specs.RuleItems.{EndRule, AreRules}
use Rattle.lexspec_lines.specs.DefinitionLines.{DefinitionLine, definition_at, all_conditions, has_name, substitutes_of, all_options, known_options}
use Rattle.lexspec_lines.specs.Lines.{without_returns, line_in, newlines}
use Rattle.lexspec_lines.specs.Sections.{IsFaultyLine}

-- a file of too many bytes is told as too long at line 0, and nothing else at that line
abbrev pub TellsLength : List ℕ → SpecError → Type 0
TellsLength file e = ((e.line ≡ 0) ↔ (max_file_bytes < length file)) × (e.line ≡ 0 → e.kind ≡ TooLong)

-- these items begin the text, whose first line is n, and this is left at the line m
abbrev pub AreUpTo : ℕ → List ℕ → List (ℕ × Item) → ℕ → List ℕ → Type 0
AreUpTo n t [] m rest = (n ≡ m) × (t ≡ rest)
AreUpTo n t (i ∷ is) m rest =
    (next : List ℕ) × (i.0 ≡ n) × IsLine t i.1 next × AreUpTo (n + (newlines t - newlines next)) next is m rest

-- the item is a rule with a pattern
abbrev pub is_rule : Item → Bool
is_rule (rule asked (matching anchored head trail) action) = true
is_rule _ = false

-- the lines of the rules with patterns
abbrev pub rule_lines : List (ℕ × Item) → List ℕ
rule_lines items = map (λ i. i.0) (filter (λ i. is_rule i.1) items)

-- the last of these lines, or else n
abbrev pub last_or : ℕ → List ℕ → ℕ
last_or n [] = n
last_or n (line ∷ lines) = last_or line lines

module _ (names : List (List ℕ)) (how : ReadOptions) (stack : Bool) (defined : Definitions) where
  -- These items may begin a rules section: with some others behind them they are rules, there are not too many of them,
  -- and no condition has two ends.
  pub record MayBegin (items : List (ℕ × Item)) : Type 0 where
    pub later : List (ℕ × Item)
    pub rules : List Rule
    pub ends : List EndRule
    pub are : AreRules names how stack defined (items ++ later) rules ends false
    pub single : AreSingle (length names) ends
    pub few : length (rule_lines items) ≤ max_rules

  -- The text, whose first line is n, begins with items that may begin a rules section. With the item that follows they
  -- may not, whatever is behind that, and at the end they are no rules. That line is told. A `|` without a rule behind
  -- it is told only where the items before are no rules, since the last one waits, and then at the line of that rule.
  pub record IsFirstFault (n : ℕ) (text : List ℕ) (e : SpecError) : Type 0 where
    pub items : List (ℕ × Item)
    pub place : ℕ
    pub rest : List ℕ
    pub read : AreUpTo n text items place rest
    pub begun : MayBegin items
    pub stuck : (i : Item) (next : List ℕ) → IsLine rest i next → MayBegin (items ++ (place, i) ∷ []) → ⊥
    pub ended : (rules : List Rule) (ends : List EndRule) → (rest ≡ []) ⊎ (begins (codes "%%") rest ≡ true)
        → AreRules names how stack defined items rules ends false → ⊥
    pub told : e.kind ≢ DanglingBar → e.line ≡ place
    pub bar : e.kind ≡ DanglingBar
        → ((rules : List Rule) (ends : List EndRule) → AreRules names how stack defined items rules ends false → ⊥)
        × (e.line ≡ last_or place (rule_lines items))

-- No condition is declared twice, and there are not too many; no name is defined twice; and options are known.
abbrev pub MayDeclare : List DefinitionLine → Type 0
MayDeclare ds = Pairwise ◌≢◌ (map (λ c. c.1) (all_conditions ds)) × (length (all_conditions ds) ≤ max_conditions)
    × Pairwise ◌≢◌ (map (λ d. d.0) (substitutes_of ds)) × (list_all (has_name known_options) (all_options ds) ≡ true)

-- the file has a definitions section, and this is left from the line on that begins with `%%`
abbrev pub HasDefinitions : List ℕ → List DefinitionLine → List ℕ → Type 0
HasDefinitions file ds rest =
    IsReadAs definition_at (λ t. t ≡ rest) (without_returns file) ds × (begins (codes "%%") rest ≡ true) × MayDeclare ds

-- in a file that is not too long and has no definitions section, the first faulty line of that is told
abbrev pub TellsDefinitions : List ℕ → SpecError → Type 0
TellsDefinitions file e =
    length file ≤ max_file_bytes → ((ds : List DefinitionLine) (rest : List ℕ) → HasDefinitions file ds rest → ⊥)
    → IsFaultyLine MayDeclare (without_returns file) e

-- in one that has such a section, the first faulty line behind it is told
abbrev pub TellsRules : ReadOptions → List ℕ → SpecError → Type 0
TellsRules how file e =
    length file ≤ max_file_bytes → (ds : List DefinitionLine) (rest : List ℕ) → HasDefinitions file ds rest
    → IsFirstFault (map (λ c. c.1) (all_conditions ds))
    (record { fold = how.fold || has_name (all_options ds) (codes "case-insensitive"); posix = how.posix })
    (has_name (all_options ds) (codes "stack")) (from_entries (substitutes_of ds)) (2 + newlines file - newlines rest)
    (line_in rest).1 e
