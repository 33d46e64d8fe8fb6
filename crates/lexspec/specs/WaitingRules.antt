-- Rules that are read one after another, some of which wait for the action of the next one.
use Rattle.std.specs.Prelude.{◌≡◌, ℕ, Bool, true, false, List, [], ◌∷◌, ◌++◌, map, length, Option, Some, None, slice_get, IsSomeAnd}
use Rattle.lex_semantics.specs.Spec.{Statement, EndAction, Rule}
use Rattle.lexre.specs.Definitions.{Definitions}
use Rattle.lexspec.specs.Items.{Conditions}
use Rattle.lexspec_actions.specs.Names.{number_from, Scope, known_in}
use Rattle.lexspec_actions.specs.Actions.{SpellsAction, SpellsEndAction}
use Rattle.lexspec.specs.RuleItems.{numbers_of, EndRule}
use Rattle.lex_semantics.specs.ByteSets.{single}
use Rattle.lex_semantics.specs.Tree.{Tree, Set}
use Rattle.lex_semantics.specs.Sound.{IsCutOf}
use Rattle.lexre.specs.Spelling.{Spells}
use Rattle.lexspec.specs.ItemRuns.{Item, rule, Trailing, no_trail, line_end, pattern_after, at_end, matching}
use Rattle.lexre.specs.declared.options.ReadOptions.{ReadOptions}

-- the rule with these statements
abbrev pub acting : List Statement → Rule → Rule
acting ss r =
    record {
      line = r.line;
      conditions = r.conditions;
      anchored = r.anchored;
      head = r.head;
      trail = r.trail;
      cut = r.cut;
      statements = ss;
    }

abbrev pub first_statements : List Rule → List Statement
first_statements [] = []
first_statements (r ∷ rs) = r.statements

-- the rules, with those before them that take the action of the first
abbrev pub filled : List Rule → List Rule → List Rule
filled waiting rs = map (acting (first_statements rs)) waiting ++ rs

-- the tree of a trailing context, where there is one; `$` stands for a newline
abbrev pub IsTrail : ReadOptions → Definitions → Trailing → Option Tree → Type 0
IsTrail how defined no_trail t = t ≡ None
IsTrail how defined line_end t = t ≡ Some (Set (single 10))
IsTrail how defined (pattern_after text) t = IsSomeAnd t (Spells how defined text)

-- the statements of an action: those that its text spells, or those of the next rule
abbrev pub IsActionOf : Scope → Option (List ℕ) → List Rule → List Statement → Type 0
IsActionOf known (Some text) rules ss = SpellsAction known text ss
IsActionOf known None rules ss = IsSomeAnd (slice_get rules 0) (λ r. ss ≡ r.statements)

-- after a `|` the next rule is there, and is no `<<EOF>>` rule
abbrev pub goes_to_rule : Option (List ℕ) → List (ℕ × Item) → Bool
goes_to_rule (Some text) is = true
goes_to_rule None [] = false
goes_to_rule None ((n, rule asked at_end action) ∷ is) = false
goes_to_rule None ((n, rule asked (matching anchored head after) action) ∷ is) = true
goes_to_rule None ((n, i) ∷ is) = goes_to_rule None is

module _ (names : List (List ℕ)) (how : ReadOptions) (stack : Bool) (defined : Definitions) where
  -- a rule but for its statements
  pub record HasHead (n : ℕ) (asked : Conditions) (anchored : Bool) (head : List ℕ) (after : Trailing)
      (r : Rule) : Type 0 where
    pub line_is : r.line ≡ n
    pub listed : numbers_of (number_from 0 names) (length names) asked ≡ Some r.conditions
    pub anchor : r.anchored ≡ anchored
    pub head_is : Spells how defined head r.head
    pub trail_is : IsTrail how defined after r.trail
    pub cut_is : IsCutOf r.head r.trail r.cut

  -- the rules and the `<<EOF>>` rules of the items
  abbrev pub RulesFrom : List (ℕ × Item) → List Rule → List EndRule → Type 0
  RulesFrom [] rules ends = (rules ≡ []) × (ends ≡ [])
  RulesFrom ((n, rule asked at_end (Some text)) ∷ is) rules ends =
      (numbers : Option (List ℕ)) × (e : EndAction) × (others : List EndRule)
      × (numbers_of (number_from 0 names) (length names) asked ≡ Some numbers)
      × SpellsEndAction (known_in names stack) text e
      × (ends ≡ (numbers, e) ∷ others) × RulesFrom is rules others
  RulesFrom ((n, rule asked at_end None) ∷ is) rules ends = ⊥
  RulesFrom ((n, rule asked (matching anchored head after) action) ∷ is) rules ends =
      (r : Rule) × (others : List Rule) × (rules ≡ r ∷ others)
      × (HasHead n asked anchored head after r × (goes_to_rule action is ≡ true)
      × IsActionOf (known_in names stack) action others r.statements) × RulesFrom is others ends
  RulesFrom ((n, i) ∷ is) rules ends = RulesFrom is rules ends

-- the rule of an item with a pattern, where `rules` are those of the items after it
abbrev pub IsRule : List (List ℕ) → ReadOptions → Bool → Definitions → ℕ → Conditions → Bool → List ℕ → Trailing
    → Option (List ℕ) → List (ℕ × Item) → List Rule → Rule → Type 0
IsRule names how stack defined n asked anchored head after action is rules r =
    HasHead names how stack defined n asked anchored head after r × (goes_to_rule action is ≡ true)
    × IsActionOf (known_in names stack) action rules r.statements

-- where some rule waits, the next rule is there, and is no `<<EOF>>` rule
abbrev pub may_wait : List Rule → List (ℕ × Item) → Bool
may_wait [] is = true
may_wait (w ∷ ws) is = goes_to_rule None is

-- the rules and `<<EOF>>` rules of these items, after rules that wait for the next action
pub record Left (names : List (List ℕ)) (how : ReadOptions) (stack : Bool) (defined : Definitions)
    (items : List (ℕ × Item)) (waiting rules : List Rule) (ends : List EndRule) : Type 0 where
  pub later : List Rule
  pub are : RulesFrom names how stack defined items later ends
  pub next : may_wait waiting items ≡ true
  pub whole : rules ≡ filled waiting later
