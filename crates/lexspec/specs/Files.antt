-- Which specification a file spells. (POSIX, lex, Input Files; flex, Format of the Input File. The bounds are this
-- project's.)
use Rattle.std.specs.Prelude.{◌≡◌, ◌≢◌, ℕ, ◌+◌, ◌-◌, ◌≤◌, ◌<◌, true, false, ◌||◌, List, [], map, find, length, count_by, is_none, option_map, unwrap_or, codes, zip}
use Rattle.std.specs.List.{list_all, range_with_len}
use Rattle.std.specs.Option.{option_or}
use Rattle.std.specs.FinMap.{from_entries}
use Rattle.lex_semantics.specs.Spec.{Spec, EndAction}
use Rattle.lex_semantics.specs.Active.{contains}
use Rattle.lex_semantics.specs.Reading.{IsReadAs, begins}
use Rattle.lex_semantics.specs.Text.{Pairwise}
use Rattle.lexspec_lines.specs.Lines.{without_returns, line_in, newlines}
use Rattle.lexspec_lines.specs.DefinitionLines.{DefinitionLine, definition_at, all_conditions, has_name, substitutes_of, all_options, known_options}
use Rattle.lexspec.specs.Items.{Item, AreItems}
use Rattle.lexspec.specs.RuleItems.{EndRule, AreRules}
use Rattle.lex_semantics.specs.Limits.{max_conditions, max_file_bytes, max_rules}
pub use Rattle.lexre.specs.declared.options.ReadOptions.{ReadOptions}

-- no condition is listed by two `<<EOF>>` rules, and one of them at most has no list
abbrev pub AreSingle : ℕ → List EndRule → Type 0
AreSingle count ends = ((c : ℕ) → c < count → count_by (λ (e : EndRule). contains (unwrap_or e.0 []) c) ends ≤ 1)
    × (count_by (λ (e : EndRule). is_none e.0) ends ≤ 1)

-- the end of condition c: that of the rule that lists it, else that of the rule without a list, else nothing, with
-- status 0
abbrev pub end_in : List EndRule → ℕ → EndAction
end_in ends c = unwrap_or (option_map (λ (e : EndRule). e.1)
    (option_or (find (λ (e : EndRule). contains (unwrap_or e.0 []) c) ends) (find (λ (e : EndRule). is_none e.0) ends)))
    (record { print = []; status = 0 })

-- The text is a file of this specification: definitions up to a line that begins with `%%`, and items behind that line.
pub record SpellsSpec (how : ReadOptions) (file : List ℕ) (S : Spec) : Type 0 where
  pub short : length file ≤ max_file_bytes
  pub definitions : List DefinitionLine
  pub items : List (ℕ × Item)
  pub sections : IsReadAs definition_at (λ t. (begins (codes "%%") t ≡ true)
      × ((rest : List ℕ) × AreItems (2 + newlines file - newlines t) (line_in t).1 items rest)) (without_returns file)
      definitions
  pub names : Pairwise ◌≢◌ (map (λ c. c.1) (all_conditions definitions))
  pub defined_once : Pairwise ◌≢◌ (map (λ d. d.0) (substitutes_of definitions))
  pub options : list_all (has_name known_options) (all_options definitions) ≡ true
  pub ends : List EndRule
  pub rules : AreRules (map (λ c. c.1) (all_conditions definitions))
      (record { fold = how.fold || has_name (all_options definitions) (codes "case-insensitive"); posix = how.posix })
      (has_name (all_options definitions) (codes "stack")) (from_entries (substitutes_of definitions))
      items S.rules ends false
  pub one_end : AreSingle (length (all_conditions definitions)) ends
  pub conditions : S.conditions ≡ map (λ (k, c). record { exclusive = c.0; name = c.1; end = end_in ends k })
      (zip (range_with_len 0 (length (all_conditions definitions))) (all_conditions definitions))
  pub few_conditions : length S.conditions ≤ max_conditions
  pub few_rules : length S.rules ≤ max_rules
