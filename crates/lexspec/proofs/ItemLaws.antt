-- What the reader of a rule answers.
use Rattle.std.proofs.Common.{◌≡◌, ℕ, Bool, true, List, length, Option, Some, None, Global, refl, sym, ap, subst, ◌∙◌}
use Rattle.std.proofs.lemmas.List.{length-map}
use Rattle.lex_semantics.specs.Tree.{Tree}
use Rattle.std.specs.Prelude.{Result, Ok, Err, OnErr, IfOk, IfErr, Vec, option_map}
use Rattle.lexre.specs.Views.{tree_of}
use Rattle.lexspec.specs.WaitingRules.{IsTrail}
use Rattle.lexspec.specs.ItemRuns.{Trailing, Subject, at_end, matching, IsSubject}
use Rattle.lexspec.specs.RuleViews.{cut_of}
use Rattle.lexspec.specs.declared.rule.Rule.{Rule}
use Rattle.lexspec.specs.declared.rule_text.RuleText.{RuleText}
use Rattle.lexspec.specs.declared.rule_text.Front.TheVariants as F
use Rattle.lexre.specs.Spelling.{Spells}
use Rattle.lexspec_actions.specs.Names.{number_from, names_of}
use Rattle.lexspec_actions.specs.declared.condition.Condition.{Condition}
use Rattle.lex_semantics.specs.Reading.{after_blanks}
use Rattle.lexspec.specs.Items.{Conditions, starts_rule, conditions_at, action_at}
use Rattle.lex_semantics.specs.Sound.{IsCutOf}
use Rattle.lexspec.specs.RuleItems.{numbers_of}
use Rattle.lexspec.specs.ItemReads.{names_in, NoRules, NoSides, ReadsFront, ReadsItem}
use Rattle.lexspec_lines.specs.declared.declarations.Declarations.{Declarations}
use Rattle.lexre_bytes.specs.declared.refusals.SpecErrorKind.{SpecErrorKind}
use Rattle.lexspec_lines.specs.Outcome.{UnlessMemory}
use Rattle.lexre_bytes.proofs.MemoryLaws.{unless_memory, always}
use Rattle.lexspec.proofs.RulesLaws.{no_list, no_numbers, no_subject, no_head, no_action, tree_once}
use Rattle.lexspec.proofs.OneSpec.{one_trail}
use Rattle.lex_semantics.specs.Spec.{Cut}

-- there are as many names as conditions
names_count : (cs : List Condition) → length (names_of cs) ≡ length cs
names_count cs = length-map cs (λ c. c.name.items)

numbers_by_names : (cs items : List Condition) (asked : Conditions) (o : Option (Option (List ℕ))) → cs ≡ items → numbers_of (number_from 0 (names_of cs)) (length cs) asked ≡ o
    → numbers_of (number_from 0 (names_of items)) (length (names_of items)) asked ≡ o
numbers_by_names cs items asked o e h =
    ap (λ n. numbers_of (number_from 0 (names_of items)) n asked) (names_count items) ∙ ap (λ z. numbers_of (number_from 0 (names_of z)) (length z) asked) (sym e) ∙ h

module _ (d : Declarations) (t : List ℕ) (starts : starts_rule t ≡ true) where
  pub refused_list : conditions_at t ≡ None → NoRules d t
  refused_list none = no_list (names_in d) d.options d.stack d.definitions t starts none

  pub refused_numbers : (kind : SpecErrorKind) (u : List ℕ) (asked : Conditions) (cs : List Condition) → cs ≡ d.conditions.items → conditions_at t ≡ Some (asked, u)
      → UnlessMemory kind (numbers_of (number_from 0 (names_of cs)) (length cs) asked ≡ None) → UnlessMemory kind (NoRules d t)
  refused_numbers kind u asked cs e list h =
      unless_memory kind (numbers_of (number_from 0 (names_of cs)) (length cs) asked ≡ None) (NoRules d t)
      (λ none. no_numbers (names_in d) d.options d.stack d.definitions t u asked starts list (numbers_by_names cs d.conditions.items asked None e none)) h

  pub refused_subject : (kind : SpecErrorKind) (u : List ℕ) (asked : Conditions) → conditions_at t ≡ Some (asked, u) → ((s : Subject) (v : List ℕ) → IsSubject u s v → ⊥) → UnlessMemory kind (NoRules d t)
  refused_subject kind u asked list none = always kind (NoRules d t) (no_subject (names_in d) d.options d.stack d.definitions t u asked starts list none)

  pub refused_sides : (kind : SpecErrorKind) (u v : List ℕ) (asked : Conditions) (s : Subject) (anchored : Bool) (head : List ℕ) (after : Trailing) → conditions_at t ≡ Some (asked, u)
      → IsSubject u s v → s ≡ matching anchored head after → UnlessMemory kind (NoSides d head after) → UnlessMemory kind (NoRules d t)
  refused_sides kind u v asked s anchored head after list cut is h =
      unless_memory kind (NoSides d head after) (NoRules d t) (no_head (names_in d) d.options d.stack d.definitions t u v asked anchored head after starts list (subst (λ z. IsSubject u z v) is cut)) h

  pub refused_action : (u v : List ℕ) (asked : Conditions) (subject : Subject) → conditions_at t ≡ Some (asked, u) → IsSubject u subject v → action_at (after_blanks v) ≡ None → NoRules d t
  refused_action u v asked subject list cut none = no_action (names_in d) d.options d.stack d.definitions t u v asked subject starts list cut none

  pub refused_left_open : (r : Result RuleText SpecErrorKind) (u v : List ℕ) (asked : Conditions) (s s' : Subject) → conditions_at t ≡ Some (asked, u) → IsSubject u s v → s ≡ s'
      → OnErr r (action_at (after_blanks v) ≡ None) → IfErr r (λ e. UnlessMemory e (NoRules d t))
  refused_left_open (Ok x) u v asked s s' list cut e none = tt
  refused_left_open (Err kind) u v asked s s' list cut e none = always kind (NoRules d t) (refused_action u v asked s list cut none)

  pub reads_end : (r : Result RuleText SpecErrorKind) (n : ℕ) (u v : List ℕ) (asked : Conditions) (s : Subject) (cs : List Condition) (numbers : Option (Vec ℕ Global)) → cs ≡ d.conditions.items
      → conditions_at t ≡ Some (asked, u) → IsSubject u s v → s ≡ at_end → numbers_of (number_from 0 (names_of cs)) (length cs) asked ≡ Some (option_map (λ w. w.items) numbers)
      → IfOk r (λ x. x.front ≡ F.AtEnd numbers) → IfOk r (λ x. action_at (after_blanks v) ≡ Some (x.action.now, x.rest.now)) → IfOk r (λ x. ReadsItem d n t x)
  reads_end (Err e) n u v asked s cs numbers same list cut is numbered front ends = tt
  reads_end (Ok x) n u v asked s cs numbers same list cut is numbered front ends =
      subst (λ z. ReadsFront d n t x.action.now x.rest.now z) (sym front) (record {
        asked = asked;
        item = (starts, u, v, x.action.now, list, subst (λ z. IsSubject u z v) is cut, ends, refl);
        numbered = numbers_by_names cs d.conditions.items asked (Some (option_map (λ w. w.items) numbers)) same numbered;
      })

  pub reads_rule : (r : Result RuleText SpecErrorKind) (n : ℕ) (u v : List ℕ) (asked : Conditions) (s : Subject) (anchored : Bool) (head : List ℕ) (after : Trailing) (cs : List Condition) (q : Rule)
      → cs ≡ d.conditions.items → conditions_at t ≡ Some (asked, u) → IsSubject u s v → s ≡ matching anchored head after
      → numbers_of (number_from 0 (names_of cs)) (length cs) asked ≡ Some (option_map (λ w. w.items) q.conditions) → q.line ≡ n → q.anchored ≡ anchored
      → Spells d.options d.definitions head (tree_of q.head) → IsTrail d.options d.definitions after (option_map tree_of q.trail) → IsCutOf (tree_of q.head) (option_map tree_of q.trail) (cut_of q.cut)
      → IfOk r (λ x. x.front ≡ F.Matching q) → IfOk r (λ x. action_at (after_blanks v) ≡ Some (x.action.now, x.rest.now)) → IfOk r (λ x. ReadsItem d n t x)
  reads_rule (Err e) n u v asked s anchored head after cs q same list cut is numbered line anchor spells trail cuts front ends = tt
  reads_rule (Ok x) n u v asked s anchored head after cs q same list cut is numbered line anchor spells trail cuts front ends =
      subst (λ z. ReadsFront d n t x.action.now x.rest.now z) (sym front) (record {
        asked = asked;
        anchored = anchored;
        head = head;
        after = after;
        item = (starts, u, v, x.action.now, list, subst (λ z. IsSubject u z v) is cut, ends, refl);
        has_head = record {
          line_is = line;
          listed = numbers_by_names cs d.conditions.items asked (Some (option_map (λ w. w.items) q.conditions)) same numbered;
          anchor = anchor;
          head_is = spells;
          trail_is = trail;
          cut_is = cuts;
        };
      })

-- trees that give no cut
pub no_sides_cut : (d : Declarations) (head : List ℕ) (after : Trailing) (h : Tree) (t : Option Tree) → Spells d.options d.definitions head h → IsTrail d.options d.definitions after t
    → ((cut : Cut) → IsCutOf h t cut → ⊥) → NoSides d head after
no_sides_cut d head after h t spells trail none h' t' cut spells' trail' is =
    let same : h' ≡ h = tree_once d.options d.definitions head h' h spells' spells in
    let one : t' ≡ t = one_trail tree_once d.options d.definitions after t' t trail' trail in
    none cut (subst (λ z. IsCutOf h z cut) one (subst (λ z. IsCutOf z t' cut) same is))
