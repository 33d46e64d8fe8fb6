-- Which rules the items of the rules section spell.
-- (POSIX, lex, Rules in lex and Actions in lex; flex, Patterns: trailing context, End-of-File Rules.)
use Rattle.std.specs.Prelude.{◌≡◌, ⊤, ℕ, position, Bool, true, false, if◌then◌else◌, List, [], ◌∷◌, length, filter_map, Option, Some, None, is_some, IsSomeAnd, MatchOption}
use Rattle.std.specs.List.{filter, list_all, range_with_len}
use Rattle.lex_semantics.specs.ByteSets.{same_bytes}
use Rattle.lex_semantics.specs.Active.{contains}
use Rattle.lex_semantics.specs.Spec.{EndAction, Rule}
use Rattle.lex_semantics.specs.Sound.{IsCutOf}
use Rattle.lexre.specs.Definitions.{Definitions}
use Rattle.lexre.specs.Spelling.{Spells}
use Rattle.lexspec_actions.specs.Names.{Scope}
use Rattle.lexspec_actions.specs.Actions.{SpellsAction, SpellsEndAction}
use Rattle.lexspec.specs.Items.{Conditions, unlisted, every, only, at_end, matching, Item, skipped, rule}
use Rattle.lexre.specs.declared.options.ReadOptions.{ReadOptions}

-- the numbers of a condition list among n conditions: none without a list
abbrev pub numbers_of : (List ℕ → Option ℕ) → ℕ → Conditions → Option (Option (List ℕ))
numbers_of number n unlisted = Some None
numbers_of number n every = Some (Some (range_with_len 0 n))
numbers_of number n (only names) =
    if list_all (λ name. is_some (number name)) names
    then Some (Some (filter (contains (filter_map number names)) (range_with_len 0 n))) else None

-- an `<<EOF>>` rule, by the numbers of its conditions and its action
abbrev pub EndRule : Type 0
EndRule = Option (List ℕ) × EndAction

-- `names` are those of the conditions, by number, and `stack` says whether actions may push and pop
module _ (names : List (List ℕ)) (how : ReadOptions) (stack : Bool) (defined : Definitions) where
  -- what lists and actions may name: the number of a condition is the place of the first that has its name
  abbrev pub known : Scope
  known = record { number = λ name. position (λ n. same_bytes n name) names; stack = stack }

  -- a rule but for its statements
  pub record HasHead (n : ℕ) (asked : Conditions) (anchored : Bool) (head : List ℕ) (trail : Option (List ℕ))
      (r : Rule) : Type 0 where
    pub line_is : r.line ≡ n
    pub listed : numbers_of known.number (length names) asked ≡ Some r.conditions
    pub anchor : r.anchored ≡ anchored
    pub head_is : Spells how defined head r.head
    pub trail_is : MatchOption trail (r.trail ≡ None) (λ text. IsSomeAnd r.trail (Spells how defined text))
    pub cut_is : IsCutOf r.head r.trail r.cut

  -- The rules and the `<<EOF>>` rules of the items. A `|` stands for the statements of the next rule, which is no
  -- `<<EOF>>` rule. The last argument says whether the rule before them ends with `|`.
  abbrev pub AreRules : List (ℕ × Item) → List Rule → List EndRule → Bool → Type 0
  AreRules [] [] [] after_bar = ⊤
  AreRules ((n, skipped line) ∷ is) rules ends after_bar = AreRules is rules ends after_bar
  AreRules ((n, rule asked at_end (Some text)) ∷ is) rules (end ∷ ends) false = SpellsEndAction known text end.1
      × (numbers_of known.number (length names) asked ≡ Some end.0) × AreRules is rules ends false
  AreRules ((n, rule asked (matching anchored head trail) (Some text)) ∷ is) (r ∷ rules) ends after_bar =
      HasHead n asked anchored head trail r × SpellsAction known text r.statements × AreRules is rules ends false
  AreRules ((n, rule asked (matching anchored head trail) None) ∷ is) (r ∷ next ∷ rules) ends after_bar =
      HasHead n asked anchored head trail r × (r.statements ≡ next.statements) × AreRules is (next ∷ rules) ends true
  AreRules is rules ends after_bar = ⊥
