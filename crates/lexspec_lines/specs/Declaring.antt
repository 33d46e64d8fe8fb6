-- What the definitions section declares, as the code keeps it.
use Rattle.std.specs.Prelude.{◌≡◌, ℕ, ◌≤◌, Bool, true, not, ◌&&◌, List, [], ◌∷◌, map, flat_map, length, codes}
use Rattle.std.specs.FinMap.{from_entries}
use Rattle.lexspec_actions.specs.declared.condition.Condition.{Condition}
use Rattle.lexspec_lines.specs.DefinitionLines.{DefinitionLine, declares, all_conditions, has_name, substitutes_of, known_options, all_options}
use Rattle.std.specs.List.{list_all}
use Rattle.lexspec_lines.specs.declared.declarations.Declarations.{Declarations}
use Rattle.lex_semantics.specs.Limits.{max_conditions}
use Rattle.lexspec_lines.specs.Folding.{with_fold}
use Rattle.lexre.specs.declared.options.ReadOptions.{ReadOptions}

-- a condition that is declared: whether it is exclusive, and its name
abbrev pub Declared : Type 0
Declared = Bool × List ℕ

-- the conditions of `%s` and `%x`
abbrev pub declared : List DefinitionLine → List Declared
declared ds = flat_map (λ d. elim d [ declares exclusive names ↦ map (λ name. (exclusive, name)) names | _ ↦ [] ]) ds

-- the names of conditions
abbrev pub names_of : List Declared → List (List ℕ)
names_of cs = map (λ c. c.1) cs

-- no name stands twice, as a test
abbrev pub are_distinct : List (List ℕ) → Bool
are_distinct [] = true
are_distinct (n ∷ ns) = not (has_name ns n) && are_distinct ns

abbrev pub declared_of : Condition → Declared
declared_of c = (c.exclusive, c.name.items)

-- the names of a declaration, each as a condition
abbrev pub with_kind : Bool → List (List ℕ) → List Declared
with_kind exclusive names = map (λ name. (exclusive, name)) names

-- no condition is declared twice, and there are not too many
abbrev pub AreGood : List Declared → Type 0
AreGood cs = (are_distinct (names_of cs) ≡ true) × (length cs ≤ max_conditions)

-- no condition and no name is declared twice, conditions are few, and options are known
abbrev pub AreAllowed : List DefinitionLine → Type 0
AreAllowed ds =
    AreGood (all_conditions ds) × (are_distinct (map (λ (d : List ℕ × List ℕ). d.0) (substitutes_of ds)) ≡ true)
    × (list_all (has_name known_options) (all_options ds) ≡ true)

-- what the lines declare is what the code keeps
pub record Declares (how : ReadOptions) (ds : List DefinitionLine) (d : Declarations) : Type 0 where
  pub conditions : map declared_of d.conditions.items ≡ all_conditions ds
  pub definitions : d.definitions ≡ from_entries (substitutes_of ds)
  pub reads : d.options ≡ with_fold how (has_name (all_options ds) (codes "case-insensitive"))
  pub stacks : d.stack ≡ has_name (all_options ds) (codes "stack")
