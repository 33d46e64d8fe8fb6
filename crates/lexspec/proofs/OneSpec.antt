-- A file spells at most one specification.
use Rattle.std.proofs.Common.{◌≡◌, ℕ, ◌+◌, ◌-◌, Bool, List, [], ◌∷◌, Option, Some, None, sym, ◌∙◌, ap, subst}
use Rattle.std.specs.Prelude.{codes}
use Rattle.std.specs.FinMap.{from_entries}
use Rattle.lex_semantics.specs.Tree.{Tree}
use Rattle.lex_semantics.specs.Spec.{Spec, EndAction, Statement, Cut, Whole, Head, Trail, Rule}
use Rattle.lexre.specs.Definitions.{Definitions}
use Rattle.lexre.specs.Spelling.{Spells}
use Rattle.lexre.specs.Cutting.{IsCutting}
use Rattle.lexspec_actions.specs.Names.{Scope, known_in}
use Rattle.lexspec_actions.specs.Actions.{SpellsEndAction}
use Rattle.lexspec_actions.specs.ActionSteps.{end_of}
use Rattle.lexspec_actions.proofs.EndLemmas.{end_is}
use Rattle.lexspec_actions.proofs.OneAction.{one_statements}
use Rattle.lexspec_lines.specs.Lines.{without_returns, line_in, newlines}
use Rattle.lexspec_lines.specs.DefinitionLines.{definition_at, all_conditions, has_name, substitutes_of, all_options}
use Rattle.lexspec_lines.specs.Declaring.{names_of}
use Rattle.lexspec.specs.Items.{Conditions}
use Rattle.lex_semantics.specs.Sound.{HasFixed, IsCutOf}
use Rattle.lexspec.specs.WaitingRules.{IsRule, RulesFrom, IsTrail, IsActionOf}
use Rattle.lexspec.specs.RuleItems.{EndRule}
use Rattle.lexspec.specs.Files.{SpellsSpec}
use Rattle.lexspec.specs.Endings.{conditions_with}
use Rattle.lexspec.proofs.FileSections.{sections_of, conditions_are}
use Rattle.lexspec.specs.ItemRuns.{ItemsFrom, Item, skipped, skipped_line, skipped_block, rule, Trailing, no_trail, line_end, pattern_after, at_end, matching}
use Rattle.lexspec_lines.proofs.OneSection.{one_up_to, separator_ends}
use Rattle.lexspec.proofs.RuleRunLaws.{file_rules}
use Rattle.lexspec.proofs.ItemRunLaws.{without_rest}
use Rattle.lexspec.proofs.OneItems.{one_items}
use Rattle.lexspec_lines.specs.Folding.{with_fold}
use Rattle.lexre.specs.declared.options.ReadOptions.{ReadOptions}

-- lengths are determined

one_fixed : (t : Tree) (m n : ℕ) → HasFixed t m → HasFixed t n → m ≡ n
one_fixed t m n h k = sym (h.1 h.0.0 h.0.1) ∙ k.1 h.0.0 h.0.1

one_cut : (head : Tree) (trail : Option Tree) (a b : Cut) → IsCutOf head trail a → IsCutOf head trail b → a ≡ b
one_cut head None a b h k = h ∙ sym k
one_cut head (Some t) (Head m) (Head n) h k = ap Head (one_fixed head m n h k)
one_cut head (Some t) (Trail m) (Trail n) h k = ap Trail (one_fixed t m n h.1 k.1)
one_cut head (Some t) (Head m) (Trail n) h k = absurd (k.0 m h)
one_cut head (Some t) (Trail m) (Head n) h k = absurd (h.0 n k)
one_cut head (Some t) Whole b h k = absurd h
one_cut head (Some t) a Whole h k = absurd k

pub some_is : {A : Type 0} (x y : A) → Some x ≡ Some y → x ≡ y
some_is x y e = cc

module _ (tree_once : (how : ReadOptions) (definitions : Definitions) (text : List ℕ) (t u : Tree) → Spells how definitions text t → Spells how definitions text u → t ≡ u) where
  pub one_trail : (how : ReadOptions) (definitions : Definitions) (after : Trailing) (t u : Option Tree) → IsTrail how definitions after t → IsTrail how definitions after u → t ≡ u
  one_trail how definitions no_trail t u h k = h ∙ sym k
  one_trail how definitions line_end t u h k = h ∙ sym k
  one_trail how definitions (pattern_after text) None u h k = absurd h
  one_trail how definitions (pattern_after text) (Some t) None h k = absurd k
  one_trail how definitions (pattern_after text) (Some t) (Some u) h k = ap Some (tree_once how definitions text t u h k)

  one_action : (known : Scope) (action : Option (List ℕ)) (rules : List Rule) (ss tt : List Statement) → IsActionOf known action rules ss → IsActionOf known action rules tt → ss ≡ tt
  one_action known (Some text) rules ss tt h k = one_statements known text ss tt h.0 k.0
  one_action known None [] ss tt h k = absurd h
  one_action known None (r ∷ rules) ss tt h k = h ∙ sym k

  pub one_rule : (names : List (List ℕ)) (how : ReadOptions) (stack : Bool) (definitions : Definitions) (n : ℕ) (asked : Conditions) (anchored : Bool) (head : List ℕ) (after : Trailing) (action : Option (List ℕ)) (is : List (ℕ × Item)) (rules : List Rule) (q r : Rule) →
      IsRule names how stack definitions n asked anchored head after action is rules q → IsRule names how stack definitions n asked anchored head after action is rules r → q ≡ r
  one_rule names how stack definitions n asked anchored head after action is rules q r h k =
      let line : q.line ≡ r.line = h.0.line_is ∙ sym k.0.line_is in
      let conditions : q.conditions ≡ r.conditions = some_is q.conditions r.conditions (sym h.0.listed ∙ k.0.listed) in
      let anchor : q.anchored ≡ r.anchored = h.0.anchor ∙ sym k.0.anchor in
      let same_head : q.head ≡ r.head = tree_once how definitions head q.head r.head h.0.head_is k.0.head_is in
      let same_trail : q.trail ≡ r.trail = one_trail how definitions after q.trail r.trail h.0.trail_is k.0.trail_is in
      let cut : q.cut ≡ r.cut = one_cut r.head r.trail q.cut r.cut (subst (λ z. IsCutOf r.head z q.cut) same_trail (subst (λ z. IsCutOf z q.trail q.cut) same_head h.0.cut_is)) k.0.cut_is in
      let statements : q.statements ≡ r.statements = one_action (known_in names stack) action rules q.statements r.statements h.2 k.2 in
      λ i. record { line = line i; conditions = conditions i; anchored = anchor i; head = same_head i; trail = same_trail i; cut = cut i; statements = statements i }

  pub one_end : (known : Scope) (text : List ℕ) (e f : EndAction) → SpellsEndAction known text e → SpellsEndAction known text f → e ≡ f
  one_end known text e f (ss, h, few, is) (tt, k, few', is') =
      let same : ss ≡ tt = one_statements known text ss tt h k in
      some_is e f (sym (end_is ss e is) ∙ ap end_of same ∙ end_is tt f is')

  -- the rules and the ends of items are determined
  one_rules : (names : List (List ℕ)) (how : ReadOptions) (stack : Bool) (definitions : Definitions) (is : List (ℕ × Item)) (qs rs : List Rule) (es fs : List EndRule) →
      RulesFrom names how stack definitions is qs es → RulesFrom names how stack definitions is rs fs → (qs ≡ rs) × (es ≡ fs)
  one_rules names how stack definitions [] qs rs es fs h k = (h.0 ∙ sym k.0, h.1 ∙ sym k.1)
  one_rules names how stack definitions ((n, skipped) ∷ is) qs rs es fs h k = one_rules names how stack definitions is qs rs es fs h k
  one_rules names how stack definitions ((n, skipped_line) ∷ is) qs rs es fs h k = one_rules names how stack definitions is qs rs es fs h k
  one_rules names how stack definitions ((n, skipped_block) ∷ is) qs rs es fs h k = one_rules names how stack definitions is qs rs es fs h k
  one_rules names how stack definitions ((n, rule asked at_end None) ∷ is) qs rs es fs h k = absurd h
  one_rules names how stack definitions ((n, rule asked at_end (Some text)) ∷ is) qs rs es fs (numbers, e, others, listed, spells, all, more) (numbers', e', others', listed', spells', all', more') =
      let same : numbers ≡ numbers' = some_is numbers numbers' (sym listed ∙ listed') in
      let end : e ≡ e' = one_end (known_in names stack) text e e' spells spells' in
      let later = one_rules names how stack definitions is qs rs others others' more more' in
      let pair : ◌≡◌ {A = EndRule} (numbers, e) (numbers', e') = ap (λ z. (z, e)) same ∙ ap (λ z. (numbers', z)) end in
      (later.0, all ∙ ap (λ z. z ∷ others) pair ∙ ap (λ z. (numbers', e') ∷ z) later.1 ∙ sym all')
  one_rules names how stack definitions ((n, rule asked (matching anchored head after) (Some text)) ∷ is) qs rs es fs (q, others, all, one, more) (r, others', all', one', more') =
      let later = one_rules names how stack definitions is others others' es fs more more' in
      let same : q ≡ r = one_rule names how stack definitions n asked anchored head after (Some text) is others' q r (subst (λ z. IsRule names how stack definitions n asked anchored head after (Some text) is z q) later.0 one) one' in
      (all ∙ ap (λ z. z ∷ others) same ∙ ap (λ z. r ∷ z) later.0 ∙ sym all', later.1)
  one_rules names how stack definitions ((n, rule asked (matching anchored head after) None) ∷ is) qs rs es fs (q, others, all, one, more) (r, others', all', one', more') =
      let later = one_rules names how stack definitions is others others' es fs more more' in
      let same : q ≡ r = one_rule names how stack definitions n asked anchored head after None is others' q r (subst (λ z. IsRule names how stack definitions n asked anchored head after None is z q) later.0 one) one' in
      (all ∙ ap (λ z. z ∷ others) same ∙ ap (λ z. r ∷ z) later.0 ∙ sym all', later.1)

  module _ (cut_once : (t : List ℕ) (stop stop' : ℕ) (at at' : Option ℕ) (two two' special special' : Bool) → IsCutting t stop at two special → IsCutting t stop' at' two' special' →
      (stop ≡ stop') × (at ≡ at') × (special ≡ special')) where
    pub one_specification : (how : ReadOptions) (file : List ℕ) (S T : Spec) → SpellsSpec how file S → SpellsSpec how file T → S ≡ T
    one_specification how file S T h k =
        let a = sections_of file h.definitions h.items h.sections in
        let b = sections_of file k.definitions k.items k.sections in
        let first = one_up_to definition_at (without_returns file) h.definitions k.definitions a.after b.after a.first b.first (separator_ends a.after a.separator) (separator_ends b.after b.separator) in
        let (is, all_is, here) = without_rest (2 + newlines file - newlines a.after) (line_in a.after).1 h.items a.rest a.second in
        let (js, all_js, here') = without_rest (2 + newlines file - newlines b.after) (line_in b.after).1 k.items b.rest b.second in
        let items : is ≡ js = one_items cut_once (2 + newlines file - newlines b.after) (line_in b.after).1 is js
        (subst (λ z. ItemsFrom (2 + newlines file - newlines z) (line_in z).1 is) first.1 here) here' in
        let all : RulesFrom (names_of (all_conditions k.definitions)) (with_fold how (has_name (all_options k.definitions) (codes "case-insensitive"))) (has_name (all_options k.definitions) (codes "stack")) (from_entries (substitutes_of k.definitions)) js S.rules h.ends =
        subst (λ z. RulesFrom (names_of (all_conditions k.definitions)) (with_fold how (has_name (all_options k.definitions) (codes "case-insensitive"))) (has_name (all_options k.definitions) (codes "stack")) (from_entries (substitutes_of k.definitions)) z S.rules h.ends) items
        (subst (λ z. RulesFrom (names_of (all_conditions z)) (with_fold how (has_name (all_options z) (codes "case-insensitive"))) (has_name (all_options z) (codes "stack")) (from_entries (substitutes_of z)) is S.rules h.ends) first.0 (file_rules how file S h is all_is)) in
        let both = one_rules (names_of (all_conditions k.definitions)) (with_fold how (has_name (all_options k.definitions) (codes "case-insensitive"))) (has_name (all_options k.definitions) (codes "stack")) (from_entries (substitutes_of k.definitions)) js S.rules T.rules h.ends k.ends all (file_rules how file T k js all_js) in
        let conditions : S.conditions ≡ T.conditions =
        h.conditions ∙ conditions_are 0 (all_conditions h.definitions) h.ends ∙ ap (λ z. conditions_with 0 (all_conditions z) h.ends) first.0
        ∙ ap (λ z. conditions_with 0 (all_conditions k.definitions) z) both.1 ∙ sym (k.conditions ∙ conditions_are 0 (all_conditions k.definitions) k.ends) in
        λ i. record { conditions = conditions i; rules = both.0 i }
