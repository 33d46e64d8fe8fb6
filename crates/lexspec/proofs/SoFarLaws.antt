-- One rule more.
use Rattle.std.proofs.Common.{◌≡◌, ℕ, Bool, true, false, ◌&&◌, if◌then◌else◌, List, [], ◌∷◌, ◌++◌, map, length, drop, Option, Some, Global, refl, sym, ap, subst, ◌∙◌, arith, None}
use Rattle.std.specs.Prelude.{codes, option_map, Vec}
use Rattle.std.proofs.lemmas.List.{map-append, length-map}
use Rattle.lex_semantics.specs.Spec as S
use Rattle.lexspec_actions.specs.Names.{number_from, names_of, known_in}
use Rattle.lexspec_actions.specs.Views.{end_action_of}
use Rattle.lexspec_actions.specs.Actions.{SpellsAction, SpellsEndAction}
use Rattle.lexspec_actions.specs.declared.condition.Condition.{Condition}
use Rattle.lex_semantics.specs.Reading.{begins}
use Rattle.lexspec.specs.ItemRuns.{Item, rule, IsLine, at_end, matching}
use Rattle.lexspec.specs.Items.{action_of}
use Rattle.lexspec_lines.specs.Lines.{is_all_blank}
use Rattle.lexspec.specs.RuleItems.{numbers_of, EndRule}
use Rattle.lexspec.specs.WaitingRules.{acting, Left}
use Rattle.lexspec.specs.RuleViews.{rule_of}
use Rattle.lexspec.specs.EndRules.{end_rule_of}
use Rattle.lexspec.specs.ItemReads.{names_in, ReadsFront, NoRulesAfter}
use Rattle.lexspec.specs.Agreeing.{Agrees, GoesOn}
use Rattle.lexspec.specs.Endings.{numbers_kept}
use Rattle.lexspec.specs.Files.{AreSingle}
use Rattle.lexspec.specs.Tests.{sound_list}
use Rattle.lexre_bytes.proofs.MemoryLaws.{unless_memory}
use Rattle.lexspec_lines.specs.Outcome.{UnlessMemory}
use Rattle.lexspec_lines.specs.declared.declarations.Declarations.{Declarations}
use Rattle.lexspec.specs.declared.rule_text.Front.TheVariants as F
use Rattle.lexspec.specs.declared.endings.EndRule.{EndRule as EndRuleKept}
use Rattle.lexspec.specs.declared.rule.Rule.{Rule}
use Rattle.lexspec.specs.declared.rules_so_far.RulesSoFar.{RulesSoFar}
use Rattle.lexre_bytes.specs.declared.refusals.SpecErrorKind.{SpecErrorKind}
use Rattle.lexspec.proofs.EndingLaws.{numbers_ordered}
use Rattle.lexspec.proofs.RulesLaws.{Agree, same_item, end_on, agree_end, agree_rule, agree_bar, ActsAs, IsSpelled, acts_of}

-- an action is a bar, or its text

pub action_bar : (a : List ℕ) (b : Bool) → b ≡ (begins (codes "|") a && is_all_blank (drop 1 a)) → b ≡ true → action_of a ≡ None
action_bar a b e h = ap (λ z. if z then None else Some a) (sym e ∙ h)

pub action_spelled : (a : List ℕ) (b : Bool) → b ≡ (begins (codes "|") a && is_all_blank (drop 1 a)) → b ≡ false → action_of a ≡ Some a
action_spelled a b e h = ap (λ z. if z then None else Some a) (sym e ∙ h)

module _ (d : Declarations) where
  abbrev Now : List (ℕ × Item) → List S.Rule → List EndRule → List S.Rule → Type 0
  Now before done ends w = Agree (names_in d) d.options d.stack d.definitions before done ends w

  to : (before : List (ℕ × Item)) (s : RulesSoFar) → Agrees d before s → Now before (map rule_of s.rules.items) (map end_rule_of s.ends.items) (map rule_of s.waiting.items)
  to before s a = record { back = a.back; on = a.on }

  from : (before : List (ℕ × Item)) (s : RulesSoFar) (done : List S.Rule) (ends : List EndRule) (w : List S.Rule)
      → map rule_of s.rules.items ≡ done → map end_rule_of s.ends.items ≡ ends → map rule_of s.waiting.items ≡ w → Now before done ends w → Agrees d before s
  from before s done ends w e f g a =
      let same : Now before (map rule_of s.rules.items) (map end_rule_of s.ends.items) (map rule_of s.waiting.items) =
      subst (λ z. Now before z (map end_rule_of s.ends.items) (map rule_of s.waiting.items)) (sym e)
      (subst (λ z. Now before done z (map rule_of s.waiting.items)) (sym f) (subst (λ z. Now before done ends z) (sym g) a)) in
      record { back = same.back; on = same.on }

  pub bar_taken : (r : Rule) (action : List ℕ) (s s' : RulesSoFar) → action_of action ≡ None
      → s'.rules.items ≡ s.rules.items → s'.ends.items ≡ s.ends.items → s'.waiting.items ≡ s.waiting.items ++ r ∷ [] → GoesOn d (F.Matching r) action s s'
  bar_taken r action s s' is rules ends waiting n t rest h before a = (
    rule h.asked (matching h.anchored h.head h.after) None,
    subst (λ z. IsLine t (rule h.asked (matching h.anchored h.head h.after) z) rest) is h.item,
    from (before ++ (n, rule h.asked (matching h.anchored h.head h.after) None) ∷ []) s' (map rule_of s.rules.items) (map end_rule_of s.ends.items) (map rule_of s.waiting.items ++ rule_of r ∷ [])
        (ap (map rule_of) rules) (ap (map end_rule_of) ends) (ap (map rule_of) waiting ∙ map-append rule_of s.waiting.items (r ∷ []))
        (agree_bar (names_in d) d.options d.stack d.definitions before (map rule_of s.rules.items) (map end_rule_of s.ends.items) (map rule_of s.waiting.items) n h.asked h.anchored h.head h.after (rule_of r)
        h.has_head (to before s a)),
  )

  pub rule_taken : (r : Rule) (action : List ℕ) (ss : List S.Statement) (cs : List Condition) (s s' : RulesSoFar) → action_of action ≡ Some action
      → cs ≡ d.conditions.items → SpellsAction (known_in (names_of cs) d.stack) action ss
      → map rule_of s'.rules.items ≡ map rule_of s.rules.items ++ (map (acting ss) (map rule_of s.waiting.items) ++ acting ss (rule_of r) ∷ [])
      → s'.ends.items ≡ s.ends.items → s'.waiting.items ≡ [] → GoesOn d (F.Matching r) action s s'
  rule_taken r action ss cs s s' is same acts rules ends waiting n t rest h before a = (
    rule h.asked (matching h.anchored h.head h.after) (Some action),
    subst (λ z. IsLine t (rule h.asked (matching h.anchored h.head h.after) z) rest) is h.item,
    from (before ++ (n, rule h.asked (matching h.anchored h.head h.after) (Some action)) ∷ []) s' (map rule_of s.rules.items ++ (map (acting ss) (map rule_of s.waiting.items) ++ acting ss (rule_of r) ∷ []))
        (map end_rule_of s.ends.items) [] rules (ap (map end_rule_of) ends) (ap (map rule_of) waiting)
        (agree_rule (names_in d) d.options d.stack d.definitions before (map rule_of s.rules.items) (map end_rule_of s.ends.items) (map rule_of s.waiting.items) n h.asked h.anchored h.head h.after action
        (rule_of r) ss h.has_head
        (subst (λ z. SpellsAction (known_in (names_of z) d.stack) action ss) same acts) (to before s a)),
  )

  pub rule_refused : (r : Rule) (action : List ℕ) (kind : SpecErrorKind) (cs : List Condition) (s : RulesSoFar) → action_of action ≡ Some action
      → cs ≡ d.conditions.items → UnlessMemory kind ((ss : List S.Statement) → SpellsAction (known_in (names_of cs) d.stack) action ss → ⊥)
      → UnlessMemory kind (NoRulesAfter d s (F.Matching r) action)
  rule_refused r action kind cs s is same none =
      unless_memory kind ((ss : List S.Statement) → SpellsAction (known_in (names_of cs) d.stack) action ss → ⊥) (NoRulesAfter d s (F.Matching r) action) (λ none_is n t rest reads i next is R E item left may.
      act none_is (acting_here n t rest reads i next is R E item left)) none
    where
      acting_here : (n : ℕ) (t rest : List ℕ) → ReadsFront d n t action rest (F.Matching r) → (i : Item) (next : List ℕ) (is : List (ℕ × Item)) (R : List S.Rule) (E : List EndRule) → IsLine t i next
          → Left (names_in d) d.options d.stack d.definitions ((n, i) ∷ is) (map rule_of s.waiting.items) R E → IsSpelled (names_in d) d.options d.stack d.definitions (Some action)
      acting_here n t rest h i next js R E item left =
          let acts = acts_of (names_in d) d.options d.stack d.definitions n t h.asked (matching h.anchored h.head h.after) (action_of action) rest i next js (map rule_of s.waiting.items) R E h.item item left in
          subst (IsSpelled (names_in d) d.options d.stack d.definitions) is acts.4

      act : ((ss : List S.Statement) → SpellsAction (known_in (names_of cs) d.stack) action ss → ⊥) → IsSpelled (names_in d) d.options d.stack d.definitions (Some action) → ⊥
      act none_is (ss, spells) = none_is ss (subst (λ z. SpellsAction (known_in (names_of z) d.stack) action ss) (sym same) spells)

  -- `<<EOF>>` rules

  end_acts : (numbers : Option (Vec ℕ Global)) (action : List ℕ) (n : ℕ) (t rest : List ℕ) (i : Item) (next : List ℕ) (is : List (ℕ × Item)) (w R : List S.Rule) (E : List EndRule) → ReadsFront d n t action rest (F.AtEnd numbers)
      → IsLine t i next → Left (names_in d) d.options d.stack d.definitions ((n, i) ∷ is) w R E → ActsAs (names_in d) d.options d.stack d.definitions w at_end (action_of action)
  end_acts numbers action n t rest i next is w R E h item left = acts_of (names_in d) d.options d.stack d.definitions n t h.asked at_end (action_of action) rest i next is w R E h.item item left

  no_items : {X : Type 0} (xs : List X) → length xs ≡ 0 → xs ≡ []
  no_items [] h = refl
  no_items (y ∷ ys) h = absurd (omega arith)

  pub end_taken : (numbers : Option (Vec ℕ Global)) (action : List ℕ) (e : EndRuleKept) (cs : List Condition) (s s' : RulesSoFar) → e.conditions ≡ numbers → action_of action ≡ Some action
      → cs ≡ d.conditions.items → SpellsEndAction (known_in (names_of cs) d.stack) action (end_action_of e.action) → length s.waiting.items ≡ 0
      → s'.rules.items ≡ s.rules.items → s'.ends.items ≡ s.ends.items ++ e ∷ [] → s'.waiting.items ≡ s.waiting.items → GoesOn d (F.AtEnd numbers) action s s'
  end_taken numbers action e cs s s' listed is same acts empty rules ends waiting n t rest h before a =
      let none : map rule_of s.waiting.items ≡ [] = ap (map rule_of) (no_items s.waiting.items empty) in (
        rule h.asked at_end (Some action),
        subst (λ z. IsLine t (rule h.asked at_end z) rest) is h.item,
        from (before ++ (n, rule h.asked at_end (Some action)) ∷ []) s' (map rule_of s.rules.items) (map end_rule_of s.ends.items ++ end_rule_of e ∷ []) []
            (ap (map rule_of) rules) (ap (map end_rule_of) ends ∙ map-append end_rule_of s.ends.items (e ∷ [])) (ap (map rule_of) waiting ∙ none)
            (agree_end (names_in d) d.options d.stack d.definitions before (map rule_of s.rules.items) (map end_rule_of s.ends.items) n h.asked action (option_map (λ v. v.items) e.conditions) (end_action_of e.action)
            (subst (λ z. numbers_of (number_from 0 (names_in d)) (length (names_in d)) h.asked ≡ Some (option_map (λ (v : Vec ℕ Global). v.items) z)) (sym listed) h.numbered)
            (subst (λ z. SpellsEndAction (known_in (names_of z) d.stack) action (end_action_of e.action)) same acts)
            (subst (λ z. Now before (map rule_of s.rules.items) (map end_rule_of s.ends.items) z) none (to before s a))),
      )

  pub end_refused : (numbers : Option (Vec ℕ Global)) (action : List ℕ) (kind : SpecErrorKind) (cs : List Condition) (s : RulesSoFar) → action_of action ≡ Some action
      → cs ≡ d.conditions.items
      → UnlessMemory kind ((e : S.EndAction) → SpellsEndAction (known_in (names_of cs) d.stack) action e → ⊥) → UnlessMemory kind (NoRulesAfter d s (F.AtEnd numbers) action)
  end_refused numbers action kind cs s is same none =
      unless_memory kind ((e : S.EndAction) → SpellsEndAction (known_in (names_of cs) d.stack) action e → ⊥) (NoRulesAfter d s (F.AtEnd numbers) action) (λ none_is n t rest reads i next js R E item left may.
      act none_is (subst (ActsAs (names_in d) d.options d.stack d.definitions (map rule_of s.waiting.items) at_end) is (end_acts numbers action n t rest i next js (map rule_of s.waiting.items) R E reads item left))) none
    where
      act : ((e : S.EndAction) → SpellsEndAction (known_in (names_of cs) d.stack) action e → ⊥) → ActsAs (names_in d) d.options d.stack d.definitions (map rule_of s.waiting.items) at_end (Some action) → ⊥
      act none_is (empty, e, spells) = none_is e (subst (λ z. SpellsEndAction (known_in (names_of z) d.stack) action e) (sym same) spells)

  pub end_bar_refused : (numbers : Option (Vec ℕ Global)) (action : List ℕ) (s : RulesSoFar) → action_of action ≡ None → NoRulesAfter d s (F.AtEnd numbers) action
  end_bar_refused numbers action s is n t rest reads i next js R E item left may =
      subst (ActsAs (names_in d) d.options d.stack d.definitions (map rule_of s.waiting.items) at_end) is (end_acts numbers action n t rest i next js (map rule_of s.waiting.items) R E reads item left)

  pub end_awaited : (numbers : Option (Vec ℕ Global)) (action : List ℕ) (s : RulesSoFar) → (length s.waiting.items ≡ 0 → ⊥) → NoRulesAfter d s (F.AtEnd numbers) action
  end_awaited numbers action s some n t rest reads i next is R E item left may = act (action_of action) s.waiting.items some (end_acts numbers action n t rest i next is (map rule_of s.waiting.items) R E reads item left)
    where
      act : (action : Option (List ℕ)) (ws : List Rule) → (length ws ≡ 0 → ⊥) → ActsAs (names_in d) d.options d.stack d.definitions (map rule_of ws) at_end action → ⊥
      act None ws none h = h
      act (Some text) [] none h = none refl
      act (Some text) (w ∷ ws) none (empty, e, spells) = no_list empty
        where
          no_list : ◌≡◌ {A = List S.Rule} (rule_of w ∷ map rule_of ws) [] → ⊥
          no_list e = cc

  -- a rule that clashes with one before it
  pub end_twice : (numbers : Option (Vec ℕ Global)) (action : List ℕ) (e : EndRuleKept) (old : List EndRuleKept) (cs : List Condition) (s : RulesSoFar) → old ≡ s.ends.items → e.conditions ≡ numbers → action_of action ≡ Some action
      → cs ≡ d.conditions.items → SpellsEndAction (known_in (names_of cs) d.stack) action (end_action_of e.action) → length s.waiting.items ≡ 0
      → ((count : ℕ) (more : List EndRule) → sound_list count (numbers_kept e) ≡ true → AreSingle count (map end_rule_of old ++ end_rule_of e ∷ more) → ⊥)
      → NoRulesAfter d s (F.AtEnd numbers) action
  end_twice numbers action e old cs s kept listed is same acts empty twice n t rest h i next js R E item left may =
      let none : map rule_of s.waiting.items ≡ [] = ap (map rule_of) (no_items s.waiting.items empty) in
      let numbered = subst (λ z. numbers_of (number_from 0 (names_in d)) (length (names_in d)) h.asked ≡ Some (option_map (λ (v : Vec ℕ Global). v.items) z)) (sym listed) h.numbered in
      let one : i ≡ rule h.asked at_end (Some action) = same_item t i (rule h.asked at_end (Some action)) next rest item (subst (λ z. IsLine t (rule h.asked at_end z) rest) is h.item) in
      let (F, all, more) = end_on (names_in d) d.options d.stack d.definitions n h.asked action (option_map (λ v. v.items) e.conditions) (end_action_of e.action) js R E numbered
      (subst (λ z. SpellsEndAction (known_in (names_of z) d.stack) action (end_action_of e.action)) same acts)
      (subst (λ z. Left (names_in d) d.options d.stack d.definitions ((n, z) ∷ js) [] R E) one (subst (λ z. Left (names_in d) d.options d.stack d.definitions ((n, i) ∷ js) z R E) none left)) in
      let count : length (names_in d) ≡ length d.conditions.items = length-map d.conditions.items _ in
      twice (length d.conditions.items) F (subst (λ z. sound_list z (numbers_kept e) ≡ true) count
      (numbers_ordered (number_from 0 (names_in d)) (length (names_in d)) h.asked (numbers_kept e) numbered))
      (subst (λ z. AreSingle (length d.conditions.items) (map end_rule_of z ++ end_rule_of e ∷ F)) (sym kept) (subst (λ z. AreSingle (length d.conditions.items) (map end_rule_of s.ends.items ++ z)) all may.1))
