-- `<<EOF>>` rules that name a condition in common. (flex, End-of-File Rules.)
use Rattle.std.specs.Prelude.{ℕ, suc, Bool, true, false, if◌then◌else◌, List, [], ◌∷◌, Option, Some, None, is_none, option_map, unwrap_or}
use Rattle.std.specs.List.{list_any}
use Rattle.lex_semantics.specs.Spec.{EndAction, Condition}
use Rattle.lexspec.specs.Files.{end_in}
use Rattle.lex_semantics.specs.Active.{contains}
use Rattle.lexspec.specs.RuleItems.{EndRule}
use Rattle.lexspec.specs.declared.endings.EndRule.{EndRule as EndRuleKept}

-- the numbers of an `<<EOF>>` rule that the code keeps
abbrev pub numbers_kept : EndRuleKept → Option (List ℕ)
numbers_kept e = option_map (λ v. v.items) e.conditions

-- whether a condition stands in the list of an `<<EOF>>` rule
abbrev pub lists_number : Option (List ℕ) → ℕ → Bool
lists_number asked c = contains (unwrap_or asked []) c

-- some condition stands in both lists, or neither has a list
abbrev pub clashes : Option (List ℕ) → Option (List ℕ) → Bool
clashes None None = true
clashes None (Some ds) = false
clashes (Some cs) None = false
clashes (Some cs) (Some ds) = list_any (λ d. lists_number (Some cs) d) ds

abbrev pub any_clashes : List EndRule → Option (List ℕ) → Bool
any_clashes ends numbers = list_any (λ (e : EndRule). clashes e.0 numbers) ends

-- a rule without a list
abbrev pub is_unlisted : EndRule → Bool
is_unlisted e = is_none e.0

-- The end of condition c, as the code looks for it: that of the first of some rules that lists it, else that of the
-- first rule of all without a list.
abbrev pub unlisted_end : List EndRule → EndAction
unlisted_end [] = record { print = []; status = 0 }
unlisted_end ((None, e) ∷ ends) = e
unlisted_end ((Some cs, e) ∷ ends) = unlisted_end ends

abbrev pub listed_end : List EndRule → List EndRule → ℕ → EndAction
listed_end all [] c = unlisted_end all
listed_end all (e ∷ ends) c = if lists_number e.0 c then e.1 else listed_end all ends c

-- the conditions with their ends, as the code makes them one by one; the first one has the number k
abbrev pub conditions_with : ℕ → List (Bool × List ℕ) → List EndRule → List Condition
conditions_with k [] E = []
conditions_with k (c ∷ cs) E = record { exclusive = c.0; name = c.1; end = end_in E k } ∷ conditions_with (suc k) cs E
