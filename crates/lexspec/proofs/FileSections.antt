-- The sections of a file, and the conditions with their ends, in the forms that the code's laws have.
use Rattle.std.proofs.Common.{◌≡◌, ℕ, suc, ◌+◌, ◌-◌, ◌==◌, Bool, true, false, List, [], ◌∷◌, map, length, ◌⊎◌, inl, inr, refl, sym, ap, ◌∙◌, subst, arith, add-one}
use Rattle.std.specs.Prelude.{cond, codes, zip, if◌then◌else◌, ◌++◌}
use Rattle.std.specs.List.{range_with_len}
use Rattle.std.proofs.lemmas.List.Sums.{sum_by-cons}
use Rattle.lex_semantics.specs.Reading.{Reader, IsReadAs, begins}
use Rattle.lex_semantics.specs.Spec.{Condition}
use Rattle.lexspec_lines.specs.Lines.{without_returns, line_in, newlines}
use Rattle.lexspec_lines.specs.DefinitionLines.{DefinitionLine, definition_at}
use Rattle.lexspec_lines.specs.Skips.{AreNumbered}
use Rattle.lexspec_lines.proofs.SectionLaws.{EndsWith, ends_on}
use Rattle.lexspec.specs.Items.{Item, AreItems}
use Rattle.lexspec.specs.RuleItems.{EndRule}
use Rattle.lexspec.specs.Files.{end_in}
use Rattle.lexspec.specs.Endings.{conditions_with}
use Rattle.lexspec.specs.Skipped.{user_section}
use Rattle.lexspec.specs.ItemRuns.{Item as Run, IsLine}
use Rattle.lexspec.proofs.EndLaws.{item_ends}

-- items up to a rest of which something is known

pub cut_at : {A : Type 0} (item_at : Reader A) (Done : List ℕ → Type 0) (t : List ℕ) (xs : List A) → IsReadAs item_at Done t xs
    → (after : List ℕ) × IsReadAs item_at (λ u. u ≡ after) t xs × Done after
cut_at item_at Done t [] done = (t, refl, done)
cut_at item_at Done t (x ∷ xs) (next, here, more) =
    let later = cut_at item_at Done next xs more in
    (later.0, (next, here, later.1), later.2)

pub cut_by : {A : Type 0} (item_at : Reader A) (Done : List ℕ → Type 0) (t : List ℕ) (xs : List A) (after : List ℕ) → IsReadAs item_at (λ u. u ≡ after) t xs → Done after
    → IsReadAs item_at Done t xs
cut_by item_at Done t [] after same done = subst Done (sym same) done
cut_by item_at Done t (x ∷ xs) after (next, here, more) done = (next, here, cut_by item_at Done next xs after more done)

-- the two sections of a file
pub record Sections (file : List ℕ) (definitions : List DefinitionLine) (items : List (ℕ × Item)) : Type 0 where
  pub after : List ℕ
  pub first : IsReadAs definition_at (λ t. t ≡ after) (without_returns file) definitions
  pub separator : begins (codes "%%") after ≡ true
  pub rest : List ℕ
  pub second : AreItems (2 + newlines file - newlines after) (line_in after).1 items rest

-- the rest of a first section: a separator, and the items behind it
abbrev pub Second : List ℕ → List (ℕ × Item) → List ℕ → Type 0
Second file items t = (begins (codes "%%") t ≡ true) × ((rest : List ℕ) × AreItems (2 + newlines file - newlines t) (line_in t).1 items rest)

pub sections_of : (file : List ℕ) (ds : List DefinitionLine) (is : List (ℕ × Item)) → IsReadAs definition_at (Second file is) (without_returns file) ds → Sections file ds is
sections_of file ds is h =
    let (after, first, (separator, (rest, second))) = cut_at definition_at (Second file is) (without_returns file) ds h in
    record { after = after; first = first; separator = separator; rest = rest; second = second }

pub from_sections : (file : List ℕ) (ds : List DefinitionLine) (is : List (ℕ × Item)) → Sections file ds is → IsReadAs definition_at (Second file is) (without_returns file) ds
from_sections file ds is s = cut_by definition_at (Second file is) (without_returns file) ds s.after s.first (s.separator, (s.rest, s.second))

-- the conditions with their ends, by their numbers
pub conditions_are : (k : ℕ) (cs : List (Bool × List ℕ)) (ends : List EndRule)
    → ◌≡◌ {A = List Condition} (map (λ (k, c). record { exclusive = c.0; name = c.1; end = end_in ends k }) (zip (range_with_len k (length cs)) cs)) (conditions_with k cs ends)
conditions_are k [] ends = refl
conditions_are k (c ∷ cs) ends = ap (λ l. record { exclusive = c.0; name = c.1; end = end_in ends k } ∷ l) (rw add-one (conditions_are (suc k) cs ends))

-- the line of the user section

pieces_end : (end : ℕ) (t : List ℕ) (is : List (ℕ × Run)) (rest : List ℕ) → AreNumbered IsLine end t is rest → EndsWith t rest
pieces_end end t [] rest same = ([], same)
pieces_end end t (i ∷ is) rest (next, line, here, more) = ends_on t next rest (item_ends t i.1 next here) (pieces_end end next is rest more)

-- a line ends with a newline, or with the text
line_newline : (t : List ℕ) → (newlines t ≡ suc (newlines (line_in t).1)) ⊎ ((line_in t).1 ≡ [])
line_newline [] = inr refl
line_newline (c ∷ t) = from (c == 10) (sum_by-cons (λ y. cond (y == 10) 1 0) c t) (line_newline t)
  where
    split : Bool → List ℕ × List ℕ
    split b = if b then ([], t) else (c ∷ (line_in t).0, (line_in t).1)

    from : (b : Bool) → newlines (c ∷ t) ≡ cond b 1 0 + newlines t → (newlines t ≡ suc (newlines (line_in t).1)) ⊎ ((line_in t).1 ≡ [])
        → (newlines (c ∷ t) ≡ suc (newlines (split b).1)) ⊎ ((split b).1 ≡ [])
    from true count later = inl (omega (arith, count))
    from false count (inl more) = inl (omega (arith, count, more))
    from false count (inr none) = inr none

-- where the line n has the separator `after`, the rest stands at the line that its newlines tell
pub user_line : (n end all : ℕ) (after : List ℕ) (is : List (ℕ × Run)) (rest : List ℕ) → n + newlines after ≡ all → AreNumbered IsLine end (line_in after).1 is rest
    → user_section (n + 1 + newlines (line_in after).1 - newlines rest) rest ≡ user_section (all - newlines rest) rest
user_line n end all after is rest count pieces = from (line_newline after) (pieces_end end (line_in after).1 is rest pieces)
  where
    nothing : (u : List ℕ) → u ≡ [] → (a b : ℕ) → user_section a u ≡ user_section b u
    nothing [] h a b = refl
    nothing (c ∷ u) h a b = cc

    short : (front u : List ℕ) → [] ≡ front ++ u → u ≡ []
    short [] u h = sym h
    short (c ∷ front) u h = cc

    from : (newlines after ≡ suc (newlines (line_in after).1)) ⊎ ((line_in after).1 ≡ []) → EndsWith (line_in after).1 rest
        → user_section (n + 1 + newlines (line_in after).1 - newlines rest) rest ≡ user_section (all - newlines rest) rest
    from (inl more) ends = ap (λ k. user_section k rest) (let e : n + 1 + newlines (line_in after).1 - newlines rest ≡ all - newlines rest = omega (arith, count, more) in e)
    from (inr none) (front, e) = nothing rest (short front rest (sym none ∙ e)) _ _
