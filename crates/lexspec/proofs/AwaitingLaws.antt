-- An `<<EOF>>` rule where rules wait for an action, and another rule where there are enough.
use Rattle.std.proofs.Common.{◌≡◌, ℕ, ◌+◌, ◌≤◌, ◌<◌, Bool, true, false, List, [], map, length, refl, sym, ap, ◌∙◌, arith, Option, Some, None}
use Rattle.std.specs.Prelude.{codes}
use Rattle.std.proofs.lemmas.List.{length-map}
use Rattle.lex_semantics.specs.Spec as S
use Rattle.lex_semantics.specs.Reading.{begins}
use Rattle.lexspec.specs.Items.{starts_rule, action_of}
use Rattle.lexspec.specs.Keeping.{HasRoom}
use Rattle.lexspec.specs.EndOpenings.{opens_end, begins_end}
use Rattle.lexspec.specs.RuleViews.{rule_of}
use Rattle.lexspec.specs.ItemReads.{names_in, ReadsFront, NoneLeft}
use Rattle.lexspec_lines.specs.declared.declarations.Declarations.{Declarations}
use Rattle.lexspec.specs.declared.rule_text.Front.{Front}
use Rattle.lexspec.specs.declared.rule_text.Front.TheVariants as F
use Rattle.lexspec.specs.declared.rules_so_far.RulesSoFar.{RulesSoFar}
use Rattle.lexspec.specs.ItemRuns.{Item, brings_rule, skipped, skipped_line, skipped_block, rule, IsLine, Trailing, Subject, at_end, matching, IsSubject}
use Rattle.lexspec_lines.proofs.OneSection.{no_true}
use Rattle.lexspec.proofs.OneItems.{both_ways, AllBlank, StartsBlank, OpensBlock, tests_of, rule_tests, not_caret}
use Rattle.lexspec.proofs.RulesLaws.{ActsAs, invert}
use Rattle.lex_semantics.specs.Limits.{max_rules}

module _ (d : Declarations) where
  no_action : (w : List S.Rule) (s : Subject) (u v : List ℕ) (action : Option (List ℕ)) → (w ≡ [] → ⊥) → IsSubject u s v → begins (codes "<<EOF>>") u ≡ true → ActsAs (names_in d) d.options d.stack d.definitions w s action → ⊥
  no_action w at_end u v None some is on acts = acts
  no_action w at_end u v (Some text) some is on (empty, e, spells) = some empty
  no_action w (matching true head after) u v action some (caret, not_end, p) on acts = both_ways (begins (codes "^") u) caret (not_caret u on)
  no_action w (matching false head after) u v action some (caret, not_end, p) on acts = both_ways (begins (codes "<<EOF>>") u) on not_end

  pub end_refused : (s : RulesSoFar) (n : ℕ) (t : List ℕ) → starts_rule t ≡ true → begins_end t ≡ true → (length s.waiting.items ≡ 0 → ⊥) → NoneLeft d s n t
  end_refused s n t starts on some i next is R E item left may =
      let h = invert (names_in d) d.options d.stack d.definitions t n i next is (map rule_of s.waiting.items) R E starts item left in
      no_action (map rule_of s.waiting.items) h.subject h.u h.v (action_of h.text) (λ empty. some (sym (length-map s.waiting.items rule_of) ∙ ap length empty)) h.cut (sym (ap opens_end h.list) ∙ on) h.acts

  -- a text that begins with another rule brings a rule
  brings : (t : List ℕ) (i : Item) (rest : List ℕ) → starts_rule t ≡ true → begins_end t ≡ false → IsLine t i rest → brings_rule i ≡ true
  brings t skipped rest starts off item = both_ways (AllBlank t) (tests_of t skipped rest item) (rule_tests t starts).0
  brings t skipped_line rest starts off item = both_ways (StartsBlank t) (tests_of t skipped_line rest item).1 (rule_tests t starts).1
  brings t skipped_block rest starts off item = both_ways (OpensBlock t) (tests_of t skipped_block rest item).2 (rule_tests t starts).3
  brings t (rule asked at_end action) rest starts off (starts', u, v, text, list, cut, ends, is_action) = no_true (sym off ∙ ap opens_end list ∙ cut.0)
  brings t (rule asked (matching anchored head after) action) rest starts off item = refl

  pub full_refused : (s : RulesSoFar) (n : ℕ) (t : List ℕ) → starts_rule t ≡ true → begins_end t ≡ false → max_rules ≤ length s.rules.items + length s.waiting.items → NoneLeft d s n t
  full_refused s n t starts off full i next is R E item left may = let room = may.0 (brings t i next starts off item) in absurd (omega arith)

  not_end : (u v head : List ℕ) (anchored : Bool) (after : Trailing) → IsSubject u (matching anchored head after) v → begins (codes "<<EOF>>") u ≡ false
  not_end u v head true after (caret, off, p) = from (begins (codes "<<EOF>>") u) refl
    where
      from : (b : Bool) → begins (codes "<<EOF>>") u ≡ b → b ≡ false
      from true e = both_ways (begins (codes "^") u) caret (not_caret u e)
      from false e = refl
  not_end u v head false after (caret, off, p) = off

  -- a rule has room where there is room for any rule but an `<<EOF>>` rule
  pub has_room : (s : RulesSoFar) (n : ℕ) (t action rest : List ℕ) (front : Front) → ReadsFront d n t action rest front → (begins_end t ≡ false → length s.rules.items + length s.waiting.items < max_rules) → HasRoom front s
  has_room s n t action rest (F.Matching r) h room = from h.item
    where
      from : IsLine t (rule h.asked (matching h.anchored h.head h.after) (action_of action)) rest → length s.rules.items + length s.waiting.items < max_rules
      from (starts, u, v, text, list, cut, ends, is_action) = room (ap opens_end list ∙ not_end u v h.head h.anchored h.after cut)
  has_room s n t action rest (F.AtEnd numbers) h room = tt
