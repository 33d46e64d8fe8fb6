-- The items of a text, as files have them and as the reader passes them.
use Rattle.std.proofs.Common.{◌≡◌, ℕ, suc, ◌+◌, ◌-◌, ◌<◌, ◌==◌, ◌&&◌, ◌||◌, not, Bool, true, false, if◌then◌else◌, List, [], ◌∷◌, ◌++◌, length, drop, Option, Some, None, inl, inr, refl, sym, ap, subst, ◌∙◌, arith}
use Rattle.std.specs.Prelude.{codes, nat_eq, flat_map}
use Rattle.lex_semantics.specs.ByteSets.{is_blank}
use Rattle.lex_semantics.specs.Reading.{◌>>=◌, IsReadAs, begins, take_up_to}
use Rattle.lexspec_lines.specs.Lines.{newlines, line_in, line_at, after_block}
use Rattle.lexspec_lines.specs.DefinitionLines.{DefinitionLine, ignored, code_line, code_block, definition_at}
use Rattle.lexspec_lines.specs.Skips.{IsDefinition, AreNumbered}
use Rattle.lexspec_lines.proofs.OneSection.{no_true, some_pair}
use Rattle.lexspec_lines.proofs.SectionLaws.{newlines_front}
use Rattle.lexspec.specs.Items as F
use Rattle.lexspec.specs.Items.{starts_rule, AreItems}
use Rattle.lexspec.specs.FaultLines.{AreUpTo}
use Rattle.lexspec.specs.Skipped as told
use Rattle.lexspec.specs.ItemRuns.{Trailing, no_trail, line_end, pattern_after, Subject, at_end, matching, IsSides, IsSubject, Item, skipped, skipped_line, skipped_block, rule, IsLine, code_of_item, ItemsFrom, ItemsUpTo, EndsRules}
use Rattle.lexspec.proofs.OneItems.{AllBlank, StartsBlank, OpensBlock, tests_of, opens_block}
use Rattle.lexspec.proofs.SkipLaws.{after_opening}
use Rattle.lexspec.proofs.EndLaws.{item_ends}

-- the trailing context of the file: `$` is `\n`
abbrev pub trail_as : Trailing → Option (List ℕ)
trail_as no_trail = None
trail_as line_end = Some (codes "\\n")
trail_as (pattern_after text) = Some text

abbrev pub subject_as : Subject → F.Subject
subject_as at_end = F.at_end
subject_as (matching anchored head after) = F.matching anchored head (trail_as after)

-- the item of the file
abbrev pub kept_as : Item → F.Item
kept_as skipped = F.skipped ignored
kept_as skipped_line = F.skipped code_line
kept_as skipped_block = F.skipped code_block
kept_as (rule asked subject action) = F.rule asked (subject_as subject) action

abbrev pub all_as : List (ℕ × Item) → List (ℕ × F.Item)
all_as [] = []
all_as (i ∷ is) = (i.0, kept_as i.1) ∷ all_as is

pub same_code : (is : List (ℕ × Item)) → flat_map code_of_item is ≡ flat_map told.code_of_item (all_as is)
same_code [] = refl
same_code ((n, skipped) ∷ is) = same_code is
same_code ((n, skipped_line) ∷ is) = ap (λ z. code_of_item (n, skipped_line) ++ z) (same_code is)
same_code ((n, skipped_block) ∷ is) = ap (λ z. code_of_item (n, skipped_block) ++ z) (same_code is)
same_code ((n, rule asked subject action) ∷ is) = same_code is

-- one line

abbrev Passes : (a b p o : Bool) → Bool
Passes a b p o = not (a || b || p || o)

abbrev Split : Type 0
Split = List ℕ × List ℕ

-- after `%{`
abbrev with_block : Option (List ℕ) → Option (DefinitionLine × List ℕ)
with_block o = o >>= λ after. Some (code_block, after)

abbrev block_of : List ℕ → Option (DefinitionLine × List ℕ)
block_of t = with_block (after_block (suc (length t)) t)

block_here : (u : List ℕ) → (starts_rule (37 ∷ 123 ∷ u) ≡ false) × (definition_at (37 ∷ 123 ∷ u) ≡ block_of (line_in (37 ∷ 123 ∷ u)).1)
unfolding definition_at take_up_to is_blank
block_here u = (refl, refl)

sides_on : (t head : List ℕ) (after : Trailing) (rest : List ℕ) → IsSides t head after rest → F.IsSides t head (trail_as after) rest
sides_on t head no_trail rest h = h
sides_on t head line_end rest (end, cut, is, e) = (end, e, inl (cut, is, refl))
sides_on t head (pattern_after text) rest (end, at, cut, is, text_is, e) = (end, e, inr (at, cut, is, text_is))

subject_on : (t : List ℕ) (s : Subject) (rest : List ℕ) → IsSubject t s rest → F.IsSubject t (subject_as s) rest
subject_on t at_end rest h = h
subject_on t (matching anchored head after) rest (caret, no_end, is) = (caret, no_end, sides_on (if anchored then drop 1 t else t) head after rest is)

sides_off : (t head : List ℕ) (trail : Option (List ℕ)) (rest : List ℕ) → F.IsSides t head trail rest → (after : Trailing) × (trail_as after ≡ trail) × IsSides t head after rest
sides_off t head None rest h = (no_trail, refl, h)
sides_off t head (Some trail) rest (end, e, inl (cut, is, text)) = (line_end, ap Some (sym text), (end, cut, is, e))
sides_off t head (Some trail) rest (end, e, inr (at, cut, is, text)) = (pattern_after trail, refl, (end, at, cut, is, text, e))

subject_off : (t : List ℕ) (s : F.Subject) (rest : List ℕ) → F.IsSubject t s rest → (r : Subject) × (subject_as r ≡ s) × IsSubject t r rest
subject_off t F.at_end rest h = (at_end, refl, h)
subject_off t (F.matching anchored head trail) rest (caret, no_end, is) =
    let (after, same, is') = sides_off (if anchored then drop 1 t else t) head trail rest is in
    (matching anchored head after, ap (F.matching anchored head) same, (caret, no_end, is'))

line_on : (t : List ℕ) (i : Item) (rest : List ℕ) → IsLine t i rest → F.IsLine t (kept_as i) rest
unfolding definition_at
line_on t skipped rest (text, here, blank) = (
  ap (λ a. Passes a (StartsBlank t) (begins (codes "%%") (line_in t).0) (OpensBlock t)) (tests_of t skipped rest (text, here, blank)),
  rw (here, blank) refl,
)
line_on t skipped_line rest (text, here, some, blank) =
    let tests = tests_of t skipped_line rest (text, here, some, blank) in (
      ap (λ a. Passes a (StartsBlank t) (begins (codes "%%") (line_in t).0) (OpensBlock t)) tests.0
          ∙ ap (λ b. Passes false b (begins (codes "%%") (line_in t).0) (OpensBlock t)) tests.1,
      rw (here, some, blank) refl,
    )
line_on t skipped_block rest (opens, after) =
    let (u, is) = opens_block t opens in
    let some : 0 < length t = omega (arith, ap length is) in
    let here = subst (λ z. (starts_rule z ≡ false) × (definition_at z ≡ block_of (line_in z).1)) (sym is) (block_here u) in
    (here.0, here.1 ∙ ap with_block (sym (after_opening t (line_in t).0 (line_in t).1 some refl) ∙ after))
line_on t (rule asked subject action) rest (starts, u, v, text, list, is, acts, act) = (starts, u, v, text, list, subject_on u subject v is, acts, act)

-- the line that opens a block opens the text
text_opens : (t : List ℕ) → OpensBlock t ≡ true → begins (codes "%{") t ≡ true
text_opens [] h = no_true h
text_opens (c ∷ t) h = first (c == 10) h (λ k. second t k)
  where
    second : (t : List ℕ) → begins (codes "%{") (c ∷ (line_in t).0) ≡ true → begins (codes "%{") (c ∷ t) ≡ true
    second [] k = k
    second (d ∷ u) k = from (d == 10) k
      where
        none : (b : Bool) → (b && false) ≡ true → {A : Type 0} → A
        none true e = no_true e
        none false e = no_true e

        from : (b : Bool) → begins (codes "%{") (c ∷ (if◌then◌else◌ {A = Split} b ([], u) (d ∷ (line_in u).0, (line_in u).1)).0) ≡ true → begins (codes "%{") (c ∷ d ∷ u) ≡ true
        from true e = none (nat_eq 37 c) e
        from false e = e

    first : (b : Bool) → begins (codes "%{") (if◌then◌else◌ {A = Split} b ([], t) (c ∷ (line_in t).0, (line_in t).1)).0 ≡ true
        → (begins (codes "%{") (c ∷ (line_in t).0) ≡ true → begins (codes "%{") (c ∷ t) ≡ true) → begins (codes "%{") (c ∷ t) ≡ true
    first true e later = no_true e
    first false e later = later e

abbrev Stands : List ℕ → DefinitionLine → List ℕ → Type 0
Stands t d rest = (i : Item) × (kept_as i ≡ F.skipped d) × IsLine t i rest

some_line : (c : ℕ) (t rest : List ℕ) → (line_in (c ∷ t)).1 ≡ rest → line_at (c ∷ t) ≡ Some ((line_in (c ∷ t)).0, rest)
some_line c t rest e = ap (λ z. Some ((line_in (c ∷ t)).0, z)) e

line_off : (t : List ℕ) (d : DefinitionLine) (rest : List ℕ) → F.IsLine t (F.skipped d) rest → Stands t d rest
unfolding definition_at
line_off [] d rest (off, here) = absurd (no here)
  where
    no : ◌≡◌ {A = Option (DefinitionLine × List ℕ)} None (Some (d, rest)) → ⊥
    no e = cc
line_off (c ∷ t) d rest (off, here) =
    from _ (AllBlank (c ∷ t)) (StartsBlank (c ∷ t)) (begins (codes "%%") (line_in (c ∷ t)).0) (OpensBlock (c ∷ t)) refl refl refl off here
  where
    beyond : List ℕ
    beyond = (line_in (c ∷ t)).1

    none : {A : Type 0} → ◌≡◌ {A = Option (DefinitionLine × List ℕ)} None (Some (d, rest)) → A
    none e = cc

    blocks : (o : Option (List ℕ)) → after_block (suc (length beyond)) beyond ≡ o → OpensBlock (c ∷ t) ≡ true → with_block o ≡ Some (d, rest) → Stands (c ∷ t) d rest
    blocks None e opens is = none is
    blocks (Some x) e opens is =
        let same = some_pair code_block d x rest is in
        let first : after_block (suc (length (c ∷ t))) beyond ≡ Some rest = after_opening (c ∷ t) (line_in (c ∷ t)).0 beyond (omega arith) refl ∙ e ∙ ap Some same.1 in
        (skipped_block, ap F.skipped same.0, (text_opens (c ∷ t) opens, first))

    from : (more : Option (DefinitionLine × List ℕ)) (a b p o : Bool) → AllBlank (c ∷ t) ≡ a → StartsBlank (c ∷ t) ≡ b → OpensBlock (c ∷ t) ≡ o → Passes a b p o ≡ false
        → (if a then Some (ignored, beyond) else if b then Some (code_line, beyond) else if p then None else if o then block_of beyond else more) ≡ Some (d, rest) → Stands (c ∷ t) d rest
    from more true b p o blank starts opens passes is =
        let same = some_pair ignored d beyond rest is in (skipped, ap F.skipped same.0, ((line_in (c ∷ t)).0, some_line c t rest same.1, blank))
    from more false true p o blank starts opens passes is =
        let same = some_pair code_line d beyond rest is in (skipped_line, ap F.skipped same.0, ((line_in (c ∷ t)).0, some_line c t rest same.1, blank, starts))
    from more false false true o blank starts opens passes is = none is
    from more false false false true blank starts opens passes is = blocks (after_block (suc (length beyond)) beyond) refl opens is
    from more false false false false blank starts opens passes is = no_true (sym passes)

-- a line as files have it is one that the reader passes
pub line_back : (t : List ℕ) (j : F.Item) (rest : List ℕ) → F.IsLine t j rest → (i : Item) × (kept_as i ≡ j) × IsLine t i rest
line_back t (F.skipped d) rest here = line_off t d rest here
line_back t (F.rule asked subject action) rest (starts, u, v, text, list, cut, acts, act) =
    let (s, same, cut') = subject_off u subject v cut in
    (rule asked s action, ap (λ z. F.rule asked z action) same, (starts, u, v, text, list, cut', acts, act))

-- the items up to a place
pub up_to_on : (n : ℕ) (t : List ℕ) (is : List (ℕ × Item)) (m : ℕ) (rest : List ℕ) → ItemsUpTo n t is m rest → AreUpTo n t (all_as is) m rest
up_to_on n t [] m rest h = h
up_to_on n t (i ∷ is) m rest (next, line, here, more) = (next, line, line_on t i.1 next here, up_to_on (n + (newlines t - newlines next)) next is m rest more)

pub all_more : (is js : List (ℕ × Item)) → all_as (is ++ js) ≡ all_as is ++ all_as js
all_more [] js = refl
all_more (i ∷ is) js = ap (λ z. (i.0, kept_as i.1) ∷ z) (all_more is js)

-- the items of a text leave something
pub with_rest : (n : ℕ) (t : List ℕ) (is : List (ℕ × Item)) → ItemsFrom n t is → (rest : List ℕ) × AreItems n t (all_as is) rest
with_rest n t [] over = (t, (refl, over))
with_rest n t (i ∷ is) (next, line, here, more) =
    let (rest, later) = with_rest (n + (newlines t - newlines next)) next is more in (rest, (next, line, line_on t i.1 next here, later))

pub without_rest : (n : ℕ) (t : List ℕ) (js : List (ℕ × F.Item)) (rest : List ℕ) → AreItems n t js rest → (is : List (ℕ × Item)) × (all_as is ≡ js) × ItemsFrom n t is
without_rest n t [] rest (same, over) = ([], refl, over)
without_rest n t ((m, F.skipped d) ∷ js) rest (next, line, here, more) =
    let (i, same, is_line) = line_off t d next here in
    let (is, all, later) = without_rest (n + (newlines t - newlines next)) next js rest more in
    ((m, i) ∷ is, ap (λ z. (m, z) ∷ all_as is) same ∙ ap (λ z. (m, F.skipped d) ∷ z) all, (next, line, is_line, later))
without_rest n t ((m, F.rule asked subject action) ∷ js) rest (next, line, (starts, u, v, text, list, cut, acts, act), more) =
    let (s, same, cut') = subject_off u subject v cut in
    let (is, all, later) = without_rest (n + (newlines t - newlines next)) next js rest more in (
      (m, rule asked s action) ∷ is,
      ap (λ z. (m, F.rule asked z action) ∷ all_as is) same ∙ ap (λ z. (m, F.rule asked subject action) ∷ z) all,
      (next, line, (starts, u, v, text, list, cut', acts, act), later),
    )

-- items that are numbered from behind
pub numbered_items : (end n : ℕ) (t : List ℕ) (is : List (ℕ × Item)) (rest : List ℕ) → end ≡ n + newlines t → EndsRules rest → AreNumbered IsLine end t is rest → AreItems n t (all_as is) rest
numbered_items end n t [] rest e over same = (same, subst EndsRules (sym same) over)
numbered_items end n t (i ∷ is) rest e over (next, line, here, more) =
    let front = newlines_front t next (item_ends t i.1 next here) in
    let first : i.0 ≡ n = omega (arith, e, line) in
    let behind : end ≡ n + (newlines t - newlines next) + newlines next = omega (arith, e, front) in
    (next, first, line_on t i.1 next here, numbered_items end (n + (newlines t - newlines next)) next is rest behind over more)

-- a line of the definitions section, with its number
pub numbered_lines : (end : ℕ) (t : List ℕ) (ds : List (ℕ × DefinitionLine)) (rest : List ℕ) → AreNumbered IsDefinition end t ds rest
    → IsReadAs (λ u. definition_at u >>= λ (d, after). Some ((end - newlines u, d), after)) (λ u. u ≡ rest) t ds
numbered_lines end t [] rest same = same
numbered_lines end t (d ∷ ds) rest (next, line, here, more) =
    let first : end - newlines t ≡ d.0 = omega (arith, line) in (
      next,
      ap (λ o. o >>= λ (e, after). Some ((end - newlines t, e), after)) here ∙ ap (λ z. Some ((z, d.1), next)) first,
      numbered_lines end next ds rest more,
    )
