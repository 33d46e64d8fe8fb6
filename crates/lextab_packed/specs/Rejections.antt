-- Which rules of a table do nothing but REJECT. (flex, Actions.)
use Rattle.std.specs.Prelude.{ℕ, Bool, ◌&&◌, not, List}
use Rattle.std.specs.List.{list_all, list_any}
use Rattle.lex_semantics.specs.Spec.{has_reject}
use Rattle.lex_semantics.specs.Machine.{Machine}
use Rattle.lex_machine.specs.Quiets.{only_rejects}
use Rattle.lextab_packed.specs.Table.{RuleOfTable}

-- some rule does nothing but REJECT
abbrev pub some_rule_only_rejects : List RuleOfTable → Bool
some_rule_only_rejects rs = list_any (λ r. only_rejects r.statements) rs

-- the rule does something else and then REJECT
abbrev pub acts_and_rejects : RuleOfTable → Bool
acts_and_rejects r = has_reject r.statements && not (only_rejects r.statements)

-- some rule does
abbrev pub some_rule_acts_and_rejects : List RuleOfTable → Bool
some_rule_acts_and_rejects rs = list_any acts_and_rejects rs

-- each of these rules does nothing but REJECT
abbrev pub all_only_reject : Machine → List ℕ → Bool
all_only_reject M rules = list_all (λ i. only_rejects (M.statements i)) rules
