-- What the items of the rules section spell passes the test for soundness.
use Rattle.std.proofs.Common.{◌≡◌, ℕ, suc, ◌≤◌, Bool, true, false, ◌&&◌, if◌then◌else◌, List, [], ◌∷◌, length, Option, Some, None, IfSome, refl, sym, ap, subst, ◌∙◌, arith, map}
use Rattle.std.specs.Prelude.{nat_le, sum_by}
use Rattle.std.proofs.lemmas.Bool.{and_parts, and_from, le-leb, leb-true}
use Rattle.std.proofs.lemmas.List.{length-map}
use Rattle.lex_semantics.proofs.Legals.{joined_of_normal}
use Rattle.lex_semantics.specs.Shapes.{IsSoundTree}
use Rattle.lex_semantics.specs.Tree.{Tree}
use Rattle.lex_semantics.specs.Legal.{all_in_range, ends_last, are_joined, are_compatible}
use Rattle.lex_semantics.specs.Spec.{Rule, Statement, Print, End, EndAction, Condition}
use Rattle.lexre.specs.Definitions.{Definitions}
use Rattle.lexspec_actions.specs.Names.{number_from, known_in}
use Rattle.lexspec_actions.specs.Actions.{are_few, SpellsAction}
use Rattle.lexspec_actions.specs.ActionSteps.{end_of}
use Rattle.lexspec_actions.proofs.EndLemmas.{end_is}
use Rattle.lexspec_actions.specs.Statements.{literal_bytes}
use Rattle.lexspec_actions.proofs.NormalLemmas.{legal_action, end_status}
use Rattle.lexspec_lines.specs.Declaring.{Declared, names_of}
use Rattle.lexspec.specs.ItemRuns.{Item, skipped, skipped_line, skipped_block, rule, Trailing, at_end, matching}
use Rattle.lexspec.specs.Files.{end_in}
use Rattle.lexspec.specs.Endings.{conditions_with}
use Rattle.lexspec.specs.Endings.{unlisted_end, listed_end, lists_number}
use Rattle.lexspec.specs.Items.{Conditions}
use Rattle.lexspec.specs.WaitingRules.{IsRule, RulesFrom, IsActionOf}
use Rattle.lexspec.specs.RuleItems.{EndRule}
use Rattle.lexspec_lines.specs.Declaring.{declared_of}
use Rattle.lexspec.specs.ItemReads.{names_in}
use Rattle.lexspec_lines.specs.declared.declarations.Declarations.{Declarations}
use Rattle.lex_semantics.specs.Sound.{HaveSoundSides, HasSoundSides}
use Rattle.lexspec.specs.Tests.{sound_tree, sound_trail, cut_fits, sound_list, legal_action as legal_test, sound_rule, sound_rules, sound_end, sound_conditions, is_sound}
use Rattle.lexspec.proofs.CutLaws.{cut_is_tested}
use Rattle.lexspec_lines.proofs.DeclaringLaws.{names_kept}
use Rattle.lexspec.proofs.EndingLaws.{numbers_ordered, first_listed}
use Rattle.lexspec.proofs.TestLaws.{sound_is_tested}
use Rattle.lex_semantics.specs.Limits.{max_conditions, max_statements, max_literal_bytes, max_status, max_rules}
use Rattle.lexre.specs.declared.options.ReadOptions.{ReadOptions}

-- rules

trail_passes : (t : Option Tree) → IfSome t IsSoundTree → sound_trail t ≡ true
trail_passes None h = refl
trail_passes (Some t) h = sound_is_tested t h

-- statements that may stand
abbrev MayAct : ℕ → List Statement → Type 0
MayAct n ss = (legal_test n ss ≡ true) × (are_few ss ≡ true)

rule_passes : (n : ℕ) (r : Rule) → sound_list n r.conditions ≡ true → HasSoundSides r → cut_fits r.cut r.head r.trail ≡ true → MayAct n r.statements → sound_rule n r ≡ true
rule_passes n r list sides cut act =
    let one = and_from (sound_list n r.conditions) (sound_tree r.head) list (sound_is_tested r.head sides.0) in
    let two = and_from (sound_list n r.conditions && sound_tree r.head) (sound_trail r.trail) one (trail_passes r.trail sides.1) in
    let three = and_from (sound_list n r.conditions && sound_tree r.head && sound_trail r.trail) (cut_fits r.cut r.head r.trail) two cut in
    let four = and_from (sound_list n r.conditions && sound_tree r.head && sound_trail r.trail && cut_fits r.cut r.head r.trail) (legal_test n r.statements) three act.0 in
    and_from (sound_list n r.conditions && sound_tree r.head && sound_trail r.trail && cut_fits r.cut r.head r.trail && legal_test n r.statements) (are_few r.statements) four act.1

rule_acts : (n : ℕ) (r : Rule) → sound_rule n r ≡ true → MayAct n r.statements
rule_acts n r h =
    let five = and_parts (sound_list n r.conditions && sound_tree r.head && sound_trail r.trail && cut_fits r.cut r.head r.trail && legal_test n r.statements) (are_few r.statements) h in
    ((and_parts (sound_list n r.conditions && sound_tree r.head && sound_trail r.trail && cut_fits r.cut r.head r.trail) (legal_test n r.statements) five.0).1, five.1)

spelled_acts : (names : List (List ℕ)) (stack : Bool) (text : List ℕ) (ss : List Statement) → 1 ≤ length names → SpellsAction (known_in names stack) text ss → MayAct (length names) ss
spelled_acts names stack text ss some h =
    let n = length names in
    let legal = legal_action names stack text ss some h in
    let few = and_parts (are_few ss && ends_last ss) (are_compatible ss) h.1 in (
      and_from (all_in_range n ss && ends_last ss && are_joined ss) (are_compatible ss)
          (and_from (all_in_range n ss && ends_last ss) (are_joined ss) (and_from (all_in_range n ss) (ends_last ss) legal.0.ranges legal.0.last) (joined_of_normal ss legal.1)) legal.0.compatible,
      (and_parts (are_few ss) (ends_last ss) few.0).0,
    )

action_acts : (names : List (List ℕ)) (stack : Bool) (action : Option (List ℕ)) (rs : List Rule) (ss : List Statement) → 1 ≤ length names → IsActionOf (known_in names stack) action rs ss → sound_rules (length names) rs ≡ true
    → MayAct (length names) ss
action_acts names stack (Some text) rs ss some h pass = spelled_acts names stack text ss some h
action_acts names stack None [] ss some h pass = absurd h
action_acts names stack None (r ∷ rs) ss some h pass =
    subst (MayAct (length names)) (sym h) (rule_acts (length names) r (and_parts (sound_rule (length names) r) (sound_rules (length names) rs) pass).0)

-- an end action prints the literal of its statements
end_print_of : (ss : List Statement) (e : EndAction) → sum_by literal_bytes ss ≤ max_literal_bytes → end_of ss ≡ Some e → length e.print ≤ max_literal_bytes
end_print_of [] e few is = let same : record { print = []; status = 0 } ≡ e = cc in subst (λ (z : EndAction). length z.print ≤ max_literal_bytes) same (omega arith)
end_print_of (Print bs ∷ []) e few is = let same : record { print = bs; status = 0 } ≡ e = cc in subst (λ (z : EndAction). length z.print ≤ max_literal_bytes) same (omega (arith, few))
end_print_of (End k ∷ []) e few is = let same : record { print = []; status = k } ≡ e = cc in subst (λ (z : EndAction). length z.print ≤ max_literal_bytes) same (omega arith)
end_print_of (Print bs ∷ End k ∷ []) e few is = let same : record { print = bs; status = k } ≡ e = cc in subst (λ (z : EndAction). length z.print ≤ max_literal_bytes) same (omega (arith, few))
end_print_of _ e few is = absurd (none is)
  where
    none : None ≡ Some e → ⊥
    none p = cc

end_print : (e : EndAction) (ss : List Statement) → are_few ss ≡ true → end_of ss ≡ Some e → length e.print ≤ max_literal_bytes
end_print e ss few is = end_print_of ss e (leb-true (sum_by literal_bytes ss) max_literal_bytes (and_parts (nat_le (length ss) max_statements) (nat_le (sum_by literal_bytes ss) max_literal_bytes) few).1) is

module _ (names : List (List ℕ)) (how : ReadOptions) (stack : Bool) (defined : Definitions) (some : 1 ≤ length names) where
  item_passes : (n : ℕ) (asked : Conditions) (anchored : Bool) (head : List ℕ) (after : Trailing) (action : Option (List ℕ)) (is : List (ℕ × Item)) (rs : List Rule) (r : Rule)
      → IsRule names how stack defined n asked anchored head after action is rs r → HasSoundSides r → sound_rules (length names) rs ≡ true → sound_rule (length names) r ≡ true
  item_passes n asked anchored head after action is rs r h sides pass =
      rule_passes (length names) r (numbers_ordered (number_from 0 names) (length names) asked r.conditions h.0.listed) sides
      (cut_is_tested r.cut r.head r.trail sides.0 sides.1 h.0.cut_is) (action_acts names stack action rs r.statements some h.2 pass)

  pub rules_pass : (is : List (ℕ × Item)) (rs : List Rule) (ends : List EndRule) → RulesFrom names how stack defined is rs ends → HaveSoundSides rs → sound_rules (length names) rs ≡ true
  rules_pass [] rs ends h sides = ap (sound_rules (length names)) h.0
  rules_pass ((n, skipped) ∷ is) rs ends h sides = rules_pass is rs ends h sides
  rules_pass ((n, skipped_line) ∷ is) rs ends h sides = rules_pass is rs ends h sides
  rules_pass ((n, skipped_block) ∷ is) rs ends h sides = rules_pass is rs ends h sides
  rules_pass ((n, rule asked at_end (Some text)) ∷ is) rs ends h sides = rules_pass is rs h.2 h.6 sides
  rules_pass ((n, rule asked at_end None) ∷ is) rs ends h sides = absurd h
  rules_pass ((n, rule asked (matching anchored head after) action) ∷ is) rs ends h sides =
      let both = subst HaveSoundSides h.2 sides in
      let later = rules_pass is h.1 ends h.4 both.1 in
      ap (sound_rules (length names)) h.2
      ∙ and_from (sound_rule (length names) h.0) (sound_rules (length names) h.1) (item_passes n asked anchored head after action is h.1 h.0 h.3 both.0 later) later

  -- the statuses of end actions, and what they print
  abbrev IsSmall : EndAction → Type 0
  IsSmall e = (e.status ≤ max_status) × (length e.print ≤ max_literal_bytes)

  abbrev pub AreSmall : List EndRule → Type 0
  AreSmall [] = Unit {0}
  AreSmall (e ∷ ends) = IsSmall e.1 × AreSmall ends

  pub ends_small : (is : List (ℕ × Item)) (rs : List Rule) (ends : List EndRule) → RulesFrom names how stack defined is rs ends → AreSmall ends
  ends_small [] rs ends h = subst AreSmall (sym h.1) tt
  ends_small ((n, skipped) ∷ is) rs ends h = ends_small is rs ends h
  ends_small ((n, skipped_line) ∷ is) rs ends h = ends_small is rs ends h
  ends_small ((n, skipped_block) ∷ is) rs ends h = ends_small is rs ends h
  ends_small ((n, rule asked at_end (Some text)) ∷ is) rs ends h =
      subst AreSmall (sym h.5) ((end_status names stack text h.1 some h.4, end_print h.1 h.4.0 h.4.2 (end_is h.4.0 h.1 h.4.3)), ends_small is rs h.2 h.6)
  ends_small ((n, rule asked at_end None) ∷ is) rs ends h = absurd h
  ends_small ((n, rule asked (matching anchored head after) action) ∷ is) rs ends h = ends_small is h.1 ends h.4

  small_unlisted : (ends : List EndRule) → AreSmall ends → IsSmall (unlisted_end ends)
  small_unlisted [] h = (omega arith, omega arith)
  small_unlisted ((None, e) ∷ ends) h = h.0
  small_unlisted ((Some cs, e) ∷ ends) h = small_unlisted ends h.1

  small_end : (all ends : List EndRule) (c : ℕ) → AreSmall all → AreSmall ends → IsSmall (listed_end all ends c)
  small_end all [] c h k = small_unlisted all h
  small_end all (e ∷ ends) c h k = from (lists_number e.0 c) (small_end all ends c h k.1)
    where
      from : (b : Bool) → IsSmall (listed_end all ends c) → IsSmall (if b then e.1 else listed_end all ends c)
      from true later = k.0
      from false later = later

  pub conditions_pass : (k : ℕ) (cs : List Declared) (ends : List EndRule) → AreSmall ends → sound_conditions (conditions_with k cs ends) ≡ true
  conditions_pass k [] ends h = refl
  conditions_pass k (c ∷ cs) ends h =
      let e = end_in ends k in
      let small = subst IsSmall (first_listed ends k) (small_end ends ends k h h) in
      and_from (sound_end e) (sound_conditions (conditions_with (suc k) cs ends))
      (and_from (nat_le e.status max_status) (nat_le (length e.print) max_literal_bytes) (le-leb e.status max_status small.0) (le-leb (length e.print) max_literal_bytes small.1))
      (conditions_pass (suc k) cs ends h)

pub length_with : (k : ℕ) (cs : List Declared) (ends : List EndRule) → length (conditions_with k cs ends) ≡ length cs
length_with k [] ends = refl
length_with k (c ∷ cs) ends = ap suc (length_with (suc k) cs ends)

-- The specification passes: its conditions are few, its rules are few, and their sides are sound.
pub spec_passes : (cs : List Declared) (how : ReadOptions) (stack : Bool) (defined : Definitions) (is : List (ℕ × Item)) (rs : List Rule) (ends : List EndRule) → 1 ≤ length cs → length cs ≤ max_conditions → length rs ≤ max_rules
    → RulesFrom (names_of cs) how stack defined is rs ends → HaveSoundSides rs → is_sound (record { conditions = conditions_with 0 cs ends; rules = rs }) ≡ true
spec_passes cs how stack defined is rs ends some few few_rules h sides =
    let conditions = conditions_with 0 cs ends in
    let named : length (names_of cs) ≡ length cs = length-map cs (λ (c : Declared). c.1) in
    let count : length conditions ≡ length cs = length_with 0 cs ends in
    let some_name : 1 ≤ length (names_of cs) = omega arith in
    let same : length (names_of cs) ≡ length conditions = named ∙ sym count in
    let small = ends_small (names_of cs) how stack defined some_name is rs ends h in
    let one = and_from (nat_le 1 (length conditions)) (nat_le (length conditions) max_conditions) (le-leb 1 (length conditions) (omega arith)) (le-leb (length conditions) max_conditions (omega arith)) in
    let two = and_from (nat_le 1 (length conditions) && nat_le (length conditions) max_conditions) (nat_le (length rs) max_rules) one (le-leb (length rs) max_rules few_rules) in
    let three = and_from (nat_le 1 (length conditions) && nat_le (length conditions) max_conditions && nat_le (length rs) max_rules) (sound_conditions conditions) two
    (conditions_pass (names_of cs) how stack defined some_name 0 cs ends small) in
    and_from (nat_le 1 (length conditions) && nat_le (length conditions) max_conditions && nat_le (length rs) max_rules && sound_conditions conditions) (sound_rules (length conditions) rs) three
    (ap (λ n. sound_rules n rs) (sym same) ∙ rules_pass (names_of cs) how stack defined some_name is rs ends h sides)

-- The same of what the code keeps: the declared conditions, with their ends.
pub kept_passes : (d : Declarations) (how : ReadOptions) (stack : Bool) (defined : Definitions) (is : List (ℕ × Item)) (rs : List Rule) (ends : List EndRule) (cs : List Condition) → 1 ≤ length d.conditions.items
    → length d.conditions.items ≤ max_conditions → length rs ≤ max_rules → RulesFrom (names_in d) how stack defined is rs ends → HaveSoundSides rs → cs ≡ conditions_with 0 (map declared_of d.conditions.items) ends
    → is_sound (record { conditions = cs; rules = rs }) ≡ true
kept_passes d how stack defined is rs ends cs some few few_rules h sides are =
    let kept = map declared_of d.conditions.items in
    let count : length kept ≡ length d.conditions.items = length-map d.conditions.items declared_of in
    let some_kept : 1 ≤ length kept = omega arith in
    let few_kept : length kept ≤ max_conditions = omega arith in
    ap (λ z. is_sound (record { conditions = z; rules = rs })) are
    ∙ spec_passes kept how stack defined is rs ends some_kept few_kept few_rules (subst (λ ns. RulesFrom ns how stack defined is rs ends) (sym (names_kept d.conditions.items)) h) sides
