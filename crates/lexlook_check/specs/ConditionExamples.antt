-- Conditions that no action enters, or leaves, worked by hand.
use Rattle.std.specs.Prelude.{◌≡◌, ℕ, Bool, true, false, List, [], ◌∷◌, Option, Some, None, codes, map}
use Rattle.lex_semantics.specs.Spec.{Spec, Rule, Condition, Statement, Begin, Push, Pop, End, Whole}
use Rattle.lex_semantics.specs.Tree.{Empty}
use Rattle.lexlook_check.specs.Conditions.{condition_notice, condition_notices, copied_notice}
use Rattle.lexlook_check.specs.Copies.{copies_in}
use Rattle.lexlook_check.specs.declared.notices.NoticeKind.{NoticeKind}
use Rattle.lexlook_check.specs.declared.notices.NoticeKind.TheVariants.{DefaultRule, NeverEntered, NeverLeft}

-- a rule with this condition list, or none, and these statements
abbrev pub rule_with : Option (List ℕ) → List Statement → Rule
rule_with list statements = record {
  line = 1;
  conditions = list;
  anchored = false;
  head = Empty;
  trail = None;
  cut = Whole;
  statements = statements;
}

abbrev pub condition_with : List ℕ → Bool → Condition
condition_with name exclusive = record { name = name; exclusive = exclusive; end = record { print = []; status = 0 } }

-- INITIAL, an inclusive condition S and an exclusive one X, and these rules
abbrev pub spec_with : List Rule → Spec
spec_with rules = record {
  conditions = condition_with (codes "INITIAL") false ∷ condition_with (codes "S") false
      ∷ condition_with (codes "X") true
      ∷ [];
  rules = rules;
}

-- what is warned of of S and of X
abbrev pub Warns : List Rule → Option NoticeKind → Option NoticeKind → Type 0
Warns rules of_s of_x =
    (condition_notice (spec_with rules) 1 ≡ of_s) × (condition_notice (spec_with rules) 2 ≡ of_x)

-- what is warned of of one of them for the default rule, which copies the byte 7 in X
abbrev pub IsWarnedFor : List Rule → ℕ → Option NoticeKind → Type 0
IsWarnedFor rules n kind = copied_notice (spec_with rules) (None ∷ Some 1 ∷ Some 7 ∷ []) n ≡ kind

-- the lines and places at which is told that bytes are copied, where each of the three copies this first
abbrev pub CopiesAt : List (Option ℕ) → List Rule → List (ℕ × Option ℕ) → Type 0
CopiesAt copied rules found =
    map (λ f. (f.line, f.at)) (copies_in (spec_with rules) copied (codes "%x X\n%s  S\n%%\n")) ≡ found

pub record ConditionExamples : Type 0 where
  -- no action enters them
  pub none : Warns [] (Some NeverEntered) (Some NeverEntered)
  -- a rule without a list enters both; it is active in S too, and there it leads into X
  pub both : Warns (rule_with None (Begin 1 ∷ Push 2 ∷ []) ∷ []) None (Some NeverLeft)
  -- a BEGIN of X in X enters it, and does not lead out of it
  pub itself : Warns (rule_with (Some (2 ∷ [])) (Begin 2 ∷ []) ∷ []) (Some NeverEntered) (Some NeverLeft)
  -- back by the stack
  pub back : Warns (rule_with (Some (0 ∷ [])) (Push 1 ∷ Push 2 ∷ []) ∷ rule_with (Some (1 ∷ 2 ∷ [])) (Pop ∷ []) ∷ [])
      None None
  -- to the end of the scan, from X alone
  pub ended : Warns (rule_with (Some (0 ∷ [])) (Begin 1 ∷ Begin 2 ∷ []) ∷ rule_with (Some (2 ∷ [])) (End 0 ∷ []) ∷ [])
      (Some NeverLeft) None
  -- each at its name
  pub places : condition_notices (spec_with (rule_with (Some (0 ∷ [])) (Begin 2 ∷ []) ∷ [])) []
      (codes "%x X\n%s  S\n%%\n")
      ≡ record { line = 1; at = 3; size = 1; kind = NeverLeft }
      ∷ record { line = 2; at = 4; size = 1; kind = NeverEntered }
      ∷ []
  -- the default rule in the exclusive one, not in the inclusive one, and not where none is entered
  pub exclusive : IsWarnedFor (rule_with None (Begin 2 ∷ Begin 1 ∷ []) ∷ []) 2 (Some (DefaultRule 7))
  pub inclusive : IsWarnedFor (rule_with None (Begin 2 ∷ Begin 1 ∷ []) ∷ []) 1 None
  pub outside : IsWarnedFor [] 2 None
  -- by -s of INITIAL too, and of those that some action enters; not of those that keep all
  pub each : CopiesAt (Some 1 ∷ Some 2 ∷ Some 3 ∷ []) (rule_with None (Begin 2 ∷ Begin 1 ∷ []) ∷ [])
      ((0, None) ∷ (2, Some 4) ∷ (1, Some 3) ∷ [])
  pub initial : CopiesAt (Some 1 ∷ Some 2 ∷ Some 3 ∷ []) [] ((0, None) ∷ [])
  pub kept : CopiesAt (None ∷ Some 2 ∷ None ∷ []) (rule_with None (Begin 2 ∷ Begin 1 ∷ []) ∷ []) ((2, Some 4) ∷ [])
