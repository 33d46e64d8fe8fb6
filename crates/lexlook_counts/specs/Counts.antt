-- How often the rules of a specification matched and what they looked at, and how often a turn began in each start
-- condition: sums over the turns of a scan. (This project's; POSIX, lex, Actions in lex, says which matches these are.)
use Rattle.std.specs.Prelude.{◌≡◌, ℕ, ◌-◌, ◌^◌, ◌==◌, min, max, Bool, true, false, List, length, map, fold, filter, sum, count_by}
use Rattle.std.specs.List.{range_with_len}
use Rattle.lexscan_window.specs.declared.matched.MatchedRule.{MatchedRule}
use Rattle.lexscan_window.specs.declared.matched.MatchedRule.TheVariants.{Numbered, Default}
use Rattle.lexlook_counts.specs.Costs.{TurnCost}
use Rattle.lexlook_counts.specs.declared.tally.RuleCount.{RuleCount}
use Rattle.lexlook_counts.specs.declared.tally.Tally.{Tally}

abbrev pub same_rule : MatchedRule → MatchedRule → Bool
same_rule (Numbered i) (Numbered j) = i == j
same_rule Default Default = true
same_rule rule other = false

-- the turns of a rule
abbrev pub turns_of : MatchedRule → List TurnCost → List TurnCost
turns_of rule costs = filter (λ c. same_rule rule c.token.rule) costs

-- how long their texts are, with what yymore kept
abbrev pub lengths_of : MatchedRule → List TurnCost → List ℕ
lengths_of rule costs = map (λ c. c.token.end - c.token.start) (turns_of rule costs)

-- how many bytes they look at behind their texts
abbrev pub beyond_of : MatchedRule → List TurnCost → List ℕ
beyond_of rule costs = map (λ c. c.beyond) (turns_of rule costs)

-- a count is told up to the greatest number of 64 bits
abbrev pub capped : ℕ → ℕ
capped n = min n (2 ^ 64 - 1)

-- how many matches a rule had, how long their texts were in all, the longest, and how many bytes they looked at behind
-- their texts
abbrev pub rule_count : List TurnCost → MatchedRule → RuleCount
rule_count costs rule = record {
  matches = capped (length (turns_of rule costs));
  bytes = capped (sum (lengths_of rule costs));
  longest = fold max 0 (lengths_of rule costs);
  beyond = capped (sum (beyond_of rule costs));
}

-- how many turns began in a condition
abbrev pub turn_count : List TurnCost → ℕ → ℕ
turn_count costs condition = capped (count_by (λ c. c.token.condition == condition) costs)

-- the counts of the first n rules, and of the first n conditions
abbrev pub rule_counts : ℕ → List TurnCost → List RuleCount
rule_counts n costs = map (λ i. rule_count costs (Numbered i)) (range_with_len 0 n)

abbrev pub turn_counts : ℕ → List TurnCost → List ℕ
turn_counts n costs = map (turn_count costs) (range_with_len 0 n)

-- the counts of so many rules and conditions, and of the default rule
pub record IsTallyOf (rules conditions : ℕ) (costs : List TurnCost) (t : Tally) : Type 0 where
  pub of_rules : t.rules.items ≡ rule_counts rules costs
  pub of_default : t.default_rule ≡ rule_count costs Default
  pub of_conditions : t.turns.items ≡ turn_counts conditions costs
