-- The rules section of a file is cut into items in one way.
use Rattle.std.proofs.Common.{◌≡◌, ℕ, ◌+◌, ◌-◌, Bool, true, false, List, [], ◌∷◌, take, drop, ◌⊎◌, inl, inr, Option, Some, None, refl, sym, ◌∙◌, ap, subst}
use Rattle.std.specs.Prelude.{codes, nat_eq, not, ◌&&◌, ◌||◌}
use Rattle.std.specs.List.{list_any}
use Rattle.std.proofs.lemmas.Bool.{and_parts, or_parts, eqb-true}
use Rattle.lexre.specs.Cutting.{IsCutting}
use Rattle.lex_semantics.specs.Reading.{after_blanks, begins, take_up_to}
use Rattle.lex_semantics.specs.ByteSets.{is_blank}
use Rattle.lexspec_lines.specs.Lines.{line_in, line_at, newlines, is_all_blank}
use Rattle.lexspec.specs.Items.{Conditions, action_at, action_of, starts_rule}
use Rattle.lexspec.specs.SubjectViews.{sides}
use Rattle.lexspec.specs.ItemRuns.{ItemsFrom, Item, skipped, skipped_line, skipped_block, rule, IsLine, Trailing, Subject, at_end, matching, IsSides, IsSubject}
use Rattle.lexspec.proofs.SubjectLaws.{to_cut}
use Rattle.lexspec_lines.proofs.OneSection.{no_true, two_percents, some_pair}

pub both_ways : {A : Type 0} (b : Bool) → b ≡ true → b ≡ false → A
both_ways b h k = no_true (sym k ∙ h)

-- `^` and `<` are not the same byte
pub not_caret : (u : List ℕ) → begins (codes "<<EOF>>") u ≡ true → begins (codes "^") u ≡ false
not_caret [] h = no_true h
not_caret (c ∷ u) h = from u c (eqb-true 60 c (first c u h))
  where
    first : (c : ℕ) (u : List ℕ) → begins (codes "<<EOF>>") (c ∷ u) ≡ true → nat_eq 60 c ≡ true
    first c u k = (and_parts (nat_eq 60 c) (begins (codes "<EOF>>") u) k).0

    from : (u : List ℕ) (c : ℕ) → 60 ≡ c → begins (codes "^") (c ∷ u) ≡ false
    from u c e = subst (λ z. begins (codes "^") (z ∷ u) ≡ false) e refl

module _ (cut_once : (t : List ℕ) (stop stop' : ℕ) (at at' : Option ℕ) (two two' special special' : Bool) → IsCutting t stop at two special → IsCutting t stop' at' two' special' →
    (stop ≡ stop') × (at ≡ at') × (special ≡ special')) where
  one_pattern : (t : List ℕ) (head head' : List ℕ) (after after' : Trailing) (rest rest' : List ℕ) → IsSides t head after rest → IsSides t head' after' rest' →
      (head ≡ head') × (after ≡ after') × (rest ≡ rest')
  one_pattern t head head' after after' rest rest' p p' =
      let (stop, at, special, cut, sides_are, rest_is) = to_cut t head after rest p in
      let (stop', at', special', cut', sides_are', rest_is') = to_cut t head' after' rest' p' in
      let same = cut_once t stop stop' at at' false false special special' cut cut' in
      let one : sides t stop at special ≡ sides t stop' at' special' =
      ap (λ z. sides t z at special) same.0 ∙ ap (λ z. sides t stop' z special) same.1 ∙ ap (λ z. sides t stop' at' z) same.2 in
      let parts = some_pair head head' after after' (sym sides_are ∙ one ∙ sides_are') in
      (parts.0, parts.1, rest_is ∙ ap (λ z. drop z t) same.0 ∙ sym rest_is')

  pub one_subject : (t : List ℕ) (s s' : Subject) (rest rest' : List ℕ) → IsSubject t s rest → IsSubject t s' rest' → (s ≡ s') × (rest ≡ rest')
  one_subject t at_end at_end rest rest' (h, e, b) (k, e', b') = (refl, e ∙ sym e')
  one_subject t at_end (matching true head after) rest rest' (h, e, b) (k, not_end, p) = both_ways (begins (codes "^") t) k (not_caret t h)
  one_subject t at_end (matching false head after) rest rest' (h, e, b) (k, not_end, p) = both_ways (begins (codes "<<EOF>>") t) h not_end
  one_subject t (matching true head after) at_end rest rest' (k, not_end, p) (h, e, b) = both_ways (begins (codes "^") t) k (not_caret t h)
  one_subject t (matching false head after) at_end rest rest' (k, not_end, p) (h, e, b) = both_ways (begins (codes "<<EOF>>") t) h not_end
  one_subject t (matching true head after) (matching false head' after') rest rest' (k, not_end, p) (k', not_end', p') = both_ways (begins (codes "^") t) k k'
  one_subject t (matching false head after) (matching true head' after') rest rest' (k, not_end, p) (k', not_end', p') = both_ways (begins (codes "^") t) k' k
  one_subject t (matching true head after) (matching true head' after') rest rest' (k, not_end, p) (k', not_end', p') =
      let same = one_pattern (drop 1 t) head head' after after' rest rest' p p' in
      (ap (λ z. matching true z after) same.0 ∙ ap (matching true head') same.1, same.2)
  one_subject t (matching false head after) (matching false head' after') rest rest' (k, not_end, p) (k', not_end', p') =
      let same = one_pattern t head head' after after' rest rest' p p' in
      (ap (λ z. matching false z after) same.0 ∙ ap (matching false head') same.1, same.2)

-- what kind of line begins an item
pub line_text : (t text rest : List ℕ) → line_at t ≡ Some (text, rest) → ((line_in t).0 ≡ text) × ((line_in t).1 ≡ rest)
line_text [] text rest e = absurd (no e)
  where
    no : ◌≡◌ {A = Option (List ℕ × List ℕ)} None (Some (text, rest)) → ⊥
    no p = cc
line_text (c ∷ t) text rest e = some_pair (line_in (c ∷ t)).0 text (line_in (c ∷ t)).1 rest e

-- the tests of a line that tell which item it begins
abbrev pub AllBlank : List ℕ → Bool
AllBlank t = is_all_blank (line_in t).0

abbrev pub StartsBlank : List ℕ → Bool
StartsBlank t = list_any is_blank (take 1 (line_in t).0)

abbrev pub OpensBlock : List ℕ → Bool
OpensBlock t = begins (codes "%{") (line_in t).0

abbrev pub Tests : List ℕ → Item → Type 0
Tests t skipped = AllBlank t ≡ true
Tests t skipped_line = (AllBlank t ≡ false) × (StartsBlank t ≡ true)
Tests t skipped_block = (AllBlank t ≡ false) × (StartsBlank t ≡ false) × (OpensBlock t ≡ true)
Tests t (rule asked subject action) = (AllBlank t ≡ false) × (StartsBlank t ≡ false) × (OpensBlock t ≡ false)

no_and : {A : Type 0} (b : Bool) → (b && false) ≡ true → A
no_and true h = no_true h
no_and false h = no_true h

pub opens_block : (t : List ℕ) → begins (codes "%{") t ≡ true → (u : List ℕ) × (t ≡ 37 ∷ 123 ∷ u)
opens_block [] h = no_true h
opens_block (c ∷ []) h = no_and (nat_eq 37 c) h
opens_block (c ∷ d ∷ u) h =
    let both = and_parts (nat_eq 37 c) (nat_eq 123 d && true) h in
    let second = and_parts (nat_eq 123 d) true both.1 in
    let one : 37 ≡ c = eqb-true 37 c both.0 in
    let two : 123 ≡ d = eqb-true 123 d second.0 in
    (u, ap (λ z. z ∷ d ∷ u) (sym one) ∙ ap (λ z. 37 ∷ z ∷ u) (sym two))

turned : (b : Bool) → not b ≡ true → b ≡ false
turned false e = refl
turned true e = no_true e

pub block_tests : (t : List ℕ) → begins (codes "%{") t ≡ true → Tests t skipped_block
unfolding take_up_to is_blank
block_tests t h = let p = opens_block t h in subst (λ z. Tests z skipped_block) (sym p.1) (refl, refl, refl)

pub rule_tests : (t : List ℕ) → starts_rule t ≡ true → (AllBlank t ≡ false) × (StartsBlank t ≡ false) × (begins (codes "%%") (line_in t).0 ≡ false) × (OpensBlock t ≡ false)
rule_tests t h =
    let none = turned (AllBlank t || StartsBlank t || begins (codes "%%") (line_in t).0 || OpensBlock t) h in
    let three = or_parts (AllBlank t || StartsBlank t || begins (codes "%%") (line_in t).0) (OpensBlock t) none in
    let two = or_parts (AllBlank t || StartsBlank t) (begins (codes "%%") (line_in t).0) three.0 in
    let one = or_parts (AllBlank t) (StartsBlank t) two.0 in
    (one.0, one.1, two.1, three.1)

pub tests_of : (t : List ℕ) (i : Item) (rest : List ℕ) → IsLine t i rest → Tests t i
tests_of t skipped rest (text, here, blank) = ap is_all_blank (line_text t text rest here).0 ∙ blank
tests_of t skipped_line rest (text, here, some, blank) =
    let e = (line_text t text rest here).0 in (ap is_all_blank e ∙ some, ap (λ z. list_any is_blank (take 1 z)) e ∙ blank)
tests_of t skipped_block rest (opens, after) = block_tests t opens
tests_of t (rule asked subject action) rest h = let r = rule_tests t h.0 in (r.0, r.1, r.3)

-- at the end, and at a line that begins with `%%`, there is no item
pub no_item_at_end : (t : List ℕ) (i : Item) (rest : List ℕ) → (t ≡ []) ⊎ (begins (codes "%%") t ≡ true) → IsLine t i rest → ⊥
unfolding take_up_to is_blank
no_item_at_end t i rest (inl e) h = empty i (subst (λ z. IsLine z i rest) e h)
  where
    empty : (i : Item) → IsLine [] i rest → ⊥
    empty skipped (text, here, blank) = no here
      where
        no : ◌≡◌ {A = Option (List ℕ × List ℕ)} None (Some (text, rest)) → ⊥
        no p = cc
    empty skipped_line (text, here, some, blank) = no here
      where
        no : ◌≡◌ {A = Option (List ℕ × List ℕ)} None (Some (text, rest)) → ⊥
        no p = cc
    empty skipped_block (opens, after) = no_true opens
    empty (rule asked subject action) k = no_true k.0
no_item_at_end t i rest (inr e) h = let p = two_percents t e in none i p.0 (subst (λ z. IsLine z i rest) p.1 h)
  where
    none : (i : Item) (u : List ℕ) → IsLine (37 ∷ 37 ∷ u) i rest → ⊥
    none skipped u k = no_true (tests_of (37 ∷ 37 ∷ u) skipped rest k)
    none skipped_line u k = no_true (tests_of (37 ∷ 37 ∷ u) skipped_line rest k).1
    none skipped_block u k = no_true k.0
    none (rule asked subject action) u k = let r = rule_tests (37 ∷ 37 ∷ u) k.0 in no_true (sym r.2)

module _ (cut_once : (t : List ℕ) (stop stop' : ℕ) (at at' : Option ℕ) (two two' special special' : Bool) → IsCutting t stop at two special → IsCutting t stop' at' two' special' →
    (stop ≡ stop') × (at ≡ at') × (special ≡ special')) where
  one_rule : (t : List ℕ) (asked asked' : Conditions) (subject subject' : Subject) (action action' : Option (List ℕ)) (rest rest' : List ℕ) →
      IsLine t (rule asked subject action) rest → IsLine t (rule asked' subject' action') rest' → (rule asked subject action ≡ rule asked' subject' action') × (rest ≡ rest')
  one_rule t asked asked' subject subject' action action' rest rest' (starts, u, v, text, here, is, acts, act) (starts', u', v', text', here', is', acts', act') =
      let first = some_pair asked asked' u u' (sym here ∙ here') in
      let second = one_subject cut_once u' subject subject' v v' (subst (λ z. IsSubject z subject v) first.1 is) is' in
      let third = some_pair text text' rest rest' (sym acts ∙ ap (λ z. action_at (after_blanks z)) second.1 ∙ acts') in
      let same : action ≡ action' = act ∙ ap action_of third.0 ∙ sym act' in
      (ap (λ z. rule z subject action) first.0 ∙ ap (λ z. rule asked' z action) second.0 ∙ ap (rule asked' subject') same, third.1)

  pub one_item : (t : List ℕ) (i i' : Item) (rest rest' : List ℕ) → Tests t i → Tests t i' → IsLine t i rest → IsLine t i' rest' → (i ≡ i') × (rest ≡ rest')
  one_item t skipped skipped rest rest' a b (text, here, blank) (text', here', blank') = (refl, (some_pair text text' rest rest' (sym here ∙ here')).1)
  one_item t skipped_line skipped_line rest rest' a b (text, here, some, blank) (text', here', some', blank') = (refl, (some_pair text text' rest rest' (sym here ∙ here')).1)
  one_item t skipped_block skipped_block rest rest' a b (opens, after) (opens', after') = (refl, one_some rest rest' (sym after ∙ after'))
    where
      one_some : (x y : List ℕ) → Some x ≡ Some y → x ≡ y
      one_some x y e = cc
  one_item t (rule asked subject action) (rule asked' subject' action') rest rest' a b h k = one_rule t asked asked' subject subject' action action' rest rest' h k
  one_item t skipped skipped_line rest rest' a b h k = both_ways (AllBlank t) a b.0
  one_item t skipped skipped_block rest rest' a b h k = both_ways (AllBlank t) a b.0
  one_item t skipped (rule asked subject action) rest rest' a b h k = both_ways (AllBlank t) a b.0
  one_item t skipped_line skipped rest rest' a b h k = both_ways (AllBlank t) b a.0
  one_item t skipped_block skipped rest rest' a b h k = both_ways (AllBlank t) b a.0
  one_item t (rule asked subject action) skipped rest rest' a b h k = both_ways (AllBlank t) b a.0
  one_item t skipped_line skipped_block rest rest' a b h k = both_ways (StartsBlank t) a.1 b.1
  one_item t skipped_line (rule asked subject action) rest rest' a b h k = both_ways (StartsBlank t) a.1 b.1
  one_item t skipped_block skipped_line rest rest' a b h k = both_ways (StartsBlank t) b.1 a.1
  one_item t (rule asked subject action) skipped_line rest rest' a b h k = both_ways (StartsBlank t) b.1 a.1
  one_item t skipped_block (rule asked subject action) rest rest' a b h k = both_ways (OpensBlock t) a.2 b.2
  one_item t (rule asked subject action) skipped_block rest rest' a b h k = both_ways (OpensBlock t) b.2 a.2

  -- the items of a text are determined
  pub one_items : (n : ℕ) (t : List ℕ) (is js : List (ℕ × Item)) → ItemsFrom n t is → ItemsFrom n t js → is ≡ js
  one_items n t [] [] h k = refl
  one_items n t [] (j ∷ js) h (rest, line, item, more) = absurd (no_item_at_end t j.1 rest h item)
  one_items n t (i ∷ is) [] (rest, line, item, more) k = absurd (no_item_at_end t i.1 rest k item)
  one_items n t (i ∷ is) (j ∷ js) (rest, line, item, more) (rest', line', item', more') =
      let same = one_item t i.1 j.1 rest rest' (tests_of t i.1 rest item) (tests_of t j.1 rest' item') item item' in
      let later = one_items (n + (newlines t - newlines rest')) rest' is js (subst (λ z. ItemsFrom (n + (newlines t - newlines z)) z is) same.1 more) more' in
      let first : ◌≡◌ {A = ℕ × Item} (i.0, i.1) (j.0, j.1) = ap (λ z. (z, i.1)) (line ∙ sym line') ∙ ap (λ z. (j.0, z)) same.0 in
      ap (λ z. z ∷ is) first ∙ ap (λ z. j ∷ z) later
