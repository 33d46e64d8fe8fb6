-- What the steps of putting a table together answer. (This project's.)
use Rattle.std.specs.Prelude.{ℕ, suc, Bool, true, false, cond, List, [], ◌∷◌, map, slice_index}
use Rattle.lex_semantics.specs.Text.{IsText}
use Rattle.lex_semantics.specs.Spec as S
use Rattle.lexauto_dfa.specs.Parts.{lists_in}
use Rattle.lexauto_dfa.specs.declared.dfa.Parts.{Parts}
use Rattle.lextab_packed.specs.Table as T
use Rattle.lextab_packed.specs.Checks.{Each, HasText}
use Rattle.lextab_packed.specs.Views.{slots_of}
use Rattle.lextab.specs.Columns.{Packing}

-- where matches start in a condition, by a column for each
abbrev pub start_in : List ℕ → List ℕ → ℕ → Bool → ℕ
start_in starts line_starts c line_start = cond line_start (slice_index line_starts c) (slice_index starts c)

-- the conditions from number n on, with where matches start in them
abbrev pub conditions_with : (ℕ → Bool → ℕ) → ℕ → List S.Condition → List T.ConditionOfTable
conditions_with start n [] = []
conditions_with start n (c ∷ cs) =
    record { start = start n false; line_start = start n true; end = c.end } ∷ conditions_with start (suc n) cs

abbrev pub action_in : S.Rule → T.RuleOfTable
action_in r = record { cut = r.cut; statements = r.statements }

-- rows by a column for each of their parts
abbrev pub rows_with : List ℕ → List ℕ → List (List ℕ) → List T.Row
rows_with [] bases lists = []
rows_with (d ∷ defaults) [] lists = []
rows_with (d ∷ defaults) (b ∷ bases) [] = []
rows_with (d ∷ defaults) (b ∷ bases) (l ∷ lists) =
    record { default_target = d; base = b; rules = l } ∷ rows_with defaults bases lists

-- an automaton's table with the actions of a specification, packed so
abbrev pub assembled : Parts → S.Spec → Packing → T.Table
assembled p S q = record {
  conditions = conditions_with (start_in p.starts.items p.line_starts.items) 0 S.conditions;
  rules = map action_in S.rules;
  classes = q.class_count;
  class_of = q.class_of;
  rows = rows_with q.defaults q.bases (lists_in p);
  slots = slots_of q.check q.next;
}

-- what a table writes are texts
pub record HasTexts (t : T.Table) : Type 0 where
  pub prints : Each (λ i (c : T.ConditionOfTable). IsText c.end.print) 0 t.conditions
  pub literals : Each (λ i (r : T.RuleOfTable). Each HasText 0 r.statements) 0 t.rules
