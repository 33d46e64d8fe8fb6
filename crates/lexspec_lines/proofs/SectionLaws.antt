-- The definitions section, line by line.
use Rattle.std.proofs.Common.{◌≡◌, ℕ, zero, suc, ◌+◌, ◌-◌, ◌==◌, Bool, true, false, cond, if◌then◌else◌, List, [], ◌∷◌, ◌++◌, map, length, take, drop, ◌<◌, Option, Some, None, refl, sym, ap, subst, ◌∙◌, arith, append_assoc, length-append}
use Rattle.std.specs.Prelude.{codes}
use Rattle.std.specs.List.{list_any}
use Rattle.std.proofs.Math.Seq.{take-append_seam}
use Rattle.std.proofs.lemmas.List.Sums.{sum_by-append}
use Rattle.lex_semantics.specs.Reading.{◌>>=◌, Reader, begins}
use Rattle.lexre_bytes.specs.declared.refusals.SpecError.{SpecError}
use Rattle.lexspec_lines.specs.Sections.{IsFaultyLine, ends_line}
use Rattle.lex_semantics.specs.ByteSets.{is_blank}
use Rattle.lexspec_lines.specs.Lines.{line_in, after_block, newlines, is_all_blank}
use Rattle.lexspec_lines.specs.DefinitionLines.{DefinitionLine, ignored, code_line, code_block, definition_in, percent_line, definition_at, IsUpTo}
use Rattle.lexspec_lines.specs.Declaring.{declared_of, AreGood, AreAllowed, Declares}
use Rattle.lexspec_lines.specs.declared.declarations.Declarations.{Declarations}
use Rattle.lexspec_actions.specs.Comments.{after_star}
use Rattle.lexre.specs.declared.options.ReadOptions.{ReadOptions}
use Rattle.lexspec_lines.specs.Outcome.{UnlessMemory}
use Rattle.lexre_bytes.specs.declared.refusals.SpecErrorKind.{SpecErrorKind}
use Rattle.lexre_bytes.proofs.MemoryLaws.{unless_memory}
use Rattle.lexspec_lines.proofs.OneSection.{no_true, separator_ends, some_pair}

-- one line more
pub up_to_push : {A : Type 0} (item_at : Reader A) (t : List ℕ) (xs : List A) (x : A) (rest next : List ℕ) → IsUpTo item_at t xs rest → item_at rest ≡ Some (x, next) → IsUpTo item_at t (xs ++ x ∷ []) next
up_to_push item_at t [] x rest next h here = (next, ap item_at h ∙ here, refl)
up_to_push item_at t (y ∷ xs) x rest next (after, first, more) here = (after, first, up_to_push item_at after xs x rest next more here)

no_item : {A B : Type 0} (x : A) (o : Option A) → o ≡ Some x → o ≡ None → B
no_item {A} x o e f = absurd (none (sym e ∙ f))
  where
    none : ◌≡◌ {A = Option A} (Some x) None → ⊥
    none p = cc

-- what is read so far begins what is read up to a rest without an item
pub record GoesOn {A : Type 0} (item_at : Reader A) (rest : List ℕ) (xs ys : List A) (after : List ℕ) : Type 0 where
  pub more : List A
  pub whole : ys ≡ xs ++ more
  pub later : IsUpTo item_at rest more after

pub goes_on : {A : Type 0} (item_at : Reader A) (t : List ℕ) (xs ys : List A) (rest after : List ℕ) → IsUpTo item_at t xs rest → IsUpTo item_at t ys after → item_at after ≡ None → GoesOn item_at rest xs ys after
goes_on item_at t [] ys rest after h k stop = record { more = ys; whole = refl; later = subst (λ z. IsUpTo item_at z ys after) h k }
goes_on item_at t (x ∷ xs) [] rest after (next, here, later) k stop = no_item (x, next) (item_at t) here (ap item_at k ∙ stop)
goes_on item_at t (x ∷ xs) (y ∷ ys) rest after (next, here, later) (next', here', later') stop =
    let same = some_pair x y next next' (sym here ∙ here') in
    let on = goes_on item_at next' xs ys rest after (subst (λ z. IsUpTo item_at z xs rest) same.1 later) later' stop in
    record { more = on.more; whole = ap (λ z. z ∷ ys) (sym same.0) ∙ ap (λ z. x ∷ z) on.whole; later = on.later }

-- where no line can be read, and none begins with `%%`, there is no section
pub no_line : (t rest : List ℕ) (ds : List DefinitionLine) → IsUpTo definition_at t ds rest → definition_at rest ≡ None → begins (codes "%%") rest ≡ false
    → (es : List DefinitionLine) (after : List ℕ) → IsUpTo definition_at t es after → begins (codes "%%") after ≡ true → ⊥
no_line t rest ds h none off es after k on =
    let g = goes_on definition_at t ds es rest after h k (separator_ends after on) in from g.more g.later
  where
    from : (more : List DefinitionLine) → IsUpTo definition_at rest more after → ⊥
    from [] e = no_true (sym off ∙ ap (begins (codes "%%")) e ∙ on)
    from (d ∷ more) (next, here, later) = no_item (d, next) (definition_at rest) here none

-- a line that cannot be taken
pub no_taking : (Allowed : List DefinitionLine → Type 0) (t rest next : List ℕ) (ds : List DefinitionLine) (d : DefinitionLine) → IsUpTo definition_at t ds rest → definition_at rest ≡ Some (d, next)
    → ((more : List DefinitionLine) → Allowed (ds ++ d ∷ more) → ⊥)
    → (es : List DefinitionLine) (after : List ℕ) → IsUpTo definition_at t es after → begins (codes "%%") after ≡ true → Allowed es → ⊥
no_taking Allowed t rest next ds d h here refused es after k on allowed =
    let g = goes_on definition_at t ds es rest after h k (separator_ends after on) in from g.more g.later g.whole
  where
    from : (more : List DefinitionLine) → IsUpTo definition_at rest more after → es ≡ ds ++ more → ⊥
    from [] e whole = no_item (d, next) (definition_at rest) here (ap definition_at e ∙ separator_ends after on)
    from (f ∷ more) (next', here', later) whole =
        let same = some_pair d f next next' (sym here ∙ here') in
        refused more (subst Allowed (whole ∙ ap (λ z. ds ++ z ∷ more) (sym same.0)) allowed)

pub no_definition_at_end : (t : List ℕ) → length t ≡ 0 → definition_at t ≡ None
unfolding definition_at
no_definition_at_end [] h = refl
no_definition_at_end (c ∷ t) h = absurd (omega arith)

pub no_separator_at_end : (t : List ℕ) → length t ≡ 0 → begins (codes "%%") t ≡ false
no_separator_at_end [] h = refl
no_separator_at_end (c ∷ t) h = absurd (omega arith)

-- The rest of a text after a line.

abbrev pub EndsWith : List ℕ → List ℕ → Type 0
EndsWith t rest = (front : List ℕ) × (t ≡ front ++ rest)

pub ends_on : (t u rest : List ℕ) → EndsWith t u → EndsWith u rest → EndsWith t rest
ends_on t u rest (a, e) (b, f) = (a ++ b, e ∙ ap (λ z. a ++ z) f ∙ sym (append_assoc a b rest))

abbrev Split : Type 0
Split = List ℕ × List ℕ

abbrev choose : Bool → Split → Split → Split
choose b x y = if b then x else y

pub after_line : (t : List ℕ) → EndsWith t (line_in t).1
after_line [] = ([], refl)
after_line (c ∷ t) = from (c == 10) (after_line t)
  where
    from : (b : Bool) → EndsWith t (line_in t).1 → EndsWith (c ∷ t) (choose b ([], t) (c ∷ (line_in t).0, (line_in t).1)).1
    from true h = (c ∷ [], refl)
    from false h = (c ∷ h.0, ap (λ z. c ∷ z) h.1)

-- each value that there may be has the property
abbrev pub Each : {A : Type 0} → Option A → (A → Type 0) → Type 0
Each {A} o P = (x : A) → o ≡ Some x → P x

pub each_some : {A : Type 0} (P : A → Type 0) (x : A) → P x → Each (Some x) P
each_some {A} P x h y e = subst P (one x y e) h
  where
    one : (x y : A) → Some x ≡ Some y → x ≡ y
    one x y e = cc

pub each_none : {A : Type 0} (P : A → Type 0) → Each None P
each_none {A} P x e = absurd (none e)
  where
    none : ◌≡◌ {A = Option A} None (Some x) → ⊥
    none p = cc

pub each_if : {A : Type 0} (P : A → Type 0) (b : Bool) (x y : Option A) → Each x P → Each y P → Each (if b then x else y) P
each_if P true x y h k = h
each_if P false x y h k = k

pub each_bind : {A B : Type 0} (Q : A → Type 0) (P : B → Type 0) (o : Option A) (f : A → Option B) → Each o Q → ((x : A) → Q x → Each (f x) P) → Each (o >>= f) P
each_bind Q P None f h k = each_none P
each_bind Q P (Some x) f h k = k x (h x refl)

pub after_block_ends : (n : ℕ) (t : List ℕ) → Each (after_block n t) (EndsWith t)
unfolding after_block
after_block_ends zero t = each_none (EndsWith t)
after_block_ends (suc n) [] = each_none (EndsWith [])
after_block_ends (suc n) (c ∷ t) =
    let s = line_in (c ∷ t) in
    each_if (EndsWith (c ∷ t)) (begins (codes "%}") s.0) (Some s.1) (after_block n s.1) (each_some (EndsWith (c ∷ t)) s.1 (after_line (c ∷ t)))
    (λ rest e. ends_on (c ∷ t) s.1 rest (after_line (c ∷ t)) (after_block_ends n s.1 rest e))

longer : (c : ℕ) (t rest : List ℕ) → EndsWith t rest → EndsWith (c ∷ t) rest
longer c t rest h = (c ∷ h.0, ap (λ z. c ∷ z) h.1)

pub dropped : (n : ℕ) (t : List ℕ) → EndsWith t (drop n t)
dropped zero t = ([], refl)
dropped (suc n) [] = ([], refl)
dropped (suc n) (c ∷ t) = longer c t (drop n t) (dropped n t)

after_star_ends : (t : List ℕ) → Each (after_star t) (EndsWith t)
after_star_ends [] = each_none (EndsWith [])
after_star_ends (c ∷ t) =
    each_if (EndsWith (c ∷ t)) (begins (codes "*/") (c ∷ t)) (Some (drop 1 t)) (after_star t) (each_some (EndsWith (c ∷ t)) (drop 1 t) (longer c t (drop 1 t) (dropped 1 t)))
    (λ rest e. longer c t rest (after_star_ends t rest e))

-- a line with what belongs to it is the front of the text
pub definition_ends : (t : List ℕ) → Each (definition_at t) (λ x. EndsWith t x.1)
unfolding definition_at
definition_ends [] = each_none (λ (x : DefinitionLine × List ℕ). EndsWith [] x.1)
definition_ends (c ∷ t) =
    let u = c ∷ t in
    let s = line_in u in
    let P : DefinitionLine × List ℕ → Type 0 = λ x. EndsWith u x.1 in
    let line = after_line u in
    each_if P (is_all_blank s.0) _ _ (each_some P (ignored, s.1) line)
    (each_if P (list_any is_blank (take 1 s.0)) _ _ (each_some P (code_line, s.1) line)
    (each_if P (begins (codes "%%") s.0) _ _ (each_none P)
    (each_if P (begins (codes "%{") s.0) _ _
    (each_bind (EndsWith s.1) P (after_block (suc (length s.1)) s.1) _ (after_block_ends (suc (length s.1)) s.1) (λ after h. each_some P (code_block, after) (ends_on u s.1 after line h)))
    (each_if P (begins (codes "/*") s.0) _ _
    (each_bind (EndsWith (drop 2 u)) P (after_star (drop 2 u)) _ (after_star_ends (drop 2 u)) (λ after h. each_some P (ignored, (line_in after).1)
    (ends_on u (drop 2 u) (line_in after).1 (dropped 2 u) (ends_on (drop 2 u) after (line_in after).1 h (after_line after)))))
    (each_if P (begins (codes "%") s.0) _ _
    (each_bind (λ d. Unit {0}) P (percent_line s.0) _ (λ d e. tt) (λ d h. each_some P (d, s.1) line))
    (each_bind (λ d. Unit {0}) P (definition_in s.0) _ (λ d e. tt) (λ d h. each_some P (d, s.1) line)))))))

-- the newlines of the front and of the rest
pub newlines_front : (t rest : List ℕ) → EndsWith t rest → newlines (take (length t - length rest) t) + newlines rest ≡ newlines t
newlines_front t rest (front, e) =
    let n : length t - length rest ≡ length front = omega (arith, ap length e, length-append front rest) in
    let first : take (length t - length rest) t ≡ front = ap (λ k. take k t) n ∙ ap (take (length front)) e ∙ take-append_seam front rest in
    ap (λ z. newlines z + newlines rest) first ∙ sym (sum_by-append (λ (c : ℕ). cond (c == 10) 1 0) front rest) ∙ ap newlines (sym e)

-- so far these lines were read, and what they declare is kept
pub record Reading (how : ReadOptions) (text : List ℕ) (d : Declarations) (rest : List ℕ) : Type 0 where
  pub definitions : List DefinitionLine
  pub lines : IsUpTo definition_at text definitions rest
  pub declares : Declares how definitions d
  pub allowed : AreAllowed definitions

pub begin_reading : (how : ReadOptions) (text : List ℕ) (d : Declarations) → Declares how [] d → Reading how text d text
begin_reading how text d h = record { definitions = []; lines = refl; declares = h; allowed = ((refl, omega arith), refl, refl) }

pub good_kept : (how : ReadOptions) (text rest : List ℕ) (d : Declarations) → Reading how text d rest → AreGood (map declared_of d.conditions.items)
good_kept how text rest d r = subst AreGood (sym r.declares.conditions) r.allowed.0

pub read_line : (how : ReadOptions) (text rest next : List ℕ) (old new : Declarations) (d : DefinitionLine) → Reading how text old rest → definition_at rest ≡ Some (d, next)
    → ((how : ReadOptions) (ds : List DefinitionLine) → Declares how ds old → AreAllowed ds → Declares how (ds ++ d ∷ []) new × AreAllowed (ds ++ d ∷ [])) → Reading how text new next
read_line how text rest next old new d r here takes =
    let taken = takes how r.definitions r.declares r.allowed in
    record { definitions = r.definitions ++ d ∷ []; lines = up_to_push definition_at text r.definitions d rest next r.lines here; declares = taken.0; allowed = taken.1 }

pub line_counts : (rest next : List ℕ) (d : DefinitionLine) (line more whole : ℕ) → definition_at rest ≡ Some (d, next) → line + newlines rest ≡ whole → more ≡ newlines (take (length rest - length next) rest)
    → (line + more) + newlines next ≡ whole
line_counts rest next d line more whole here so e = omega (arith, newlines_front rest next (definition_ends rest (d, next) here))

-- no section of the text is allowed
abbrev pub NoSection : List ℕ → Type 0
NoSection text = (ds : List DefinitionLine) (after : List ℕ) → IsUpTo definition_at text ds after → begins (codes "%%") after ≡ true → AreAllowed ds → ⊥

pub taking_refused : (kind : SpecErrorKind) (how : ReadOptions) (text rest next : List ℕ) (old : Declarations) (d : DefinitionLine) → Reading how text old rest → definition_at rest ≡ Some (d, next)
    → UnlessMemory kind ((how : ReadOptions) (ds more : List DefinitionLine) → Declares how ds old → AreAllowed (ds ++ d ∷ more) → ⊥) → UnlessMemory kind (NoSection text)
taking_refused kind how text rest next old d r here h =
    unless_memory kind ((how : ReadOptions) (ds more : List DefinitionLine) → Declares how ds old → AreAllowed (ds ++ d ∷ more) → ⊥) (NoSection text)
    (λ refused. no_taking AreAllowed text rest next r.definitions d r.lines here (λ more. refused how r.definitions more r.declares)) h

-- The first faulty line.

faulty : (how : ReadOptions) (text rest : List ℕ) (d : Declarations) (e : SpecError) → Reading how text d rest → begins (codes "%%") rest ≡ false
    → ((ds : List DefinitionLine) (f : DefinitionLine) (next : List ℕ) (more : List DefinitionLine) → Declares how ds d → definition_at rest ≡ Some (f, next) → AreAllowed (ds ++ f ∷ more) → ⊥)
    → (0 < length rest → e.line ≡ 1 + newlines text - newlines rest) → (length rest ≡ 0 → e.line ≡ 1 + newlines text + (if ends_line text then 0 else 1)) → IsFaultyLine AreAllowed text e
faulty how text rest d e r off stuck told ended = record {
  definitions = r.definitions;
  rest = rest;
  lines = r.lines;
  allowed = r.allowed;
  off = off;
  stuck = (λ f next more here allowed. stuck r.definitions f next more r.declares here allowed);
  told = told;
  ended = ended;
}

no_line_told : (n : ℕ) (text rest : List ℕ) → n + newlines rest ≡ 1 + newlines text → n ≡ 1 + newlines text - newlines rest
no_line_told n text rest e = omega (arith, e)

pub bad_line : (how : ReadOptions) (text rest : List ℕ) (d : Declarations) (e : SpecError) → Reading how text d rest → begins (codes "%%") rest ≡ false → 0 < length rest → definition_at rest ≡ None
    → e.line + newlines rest ≡ 1 + newlines text → IsFaultyLine AreAllowed text e
bad_line how text rest d e r off some none line =
    faulty how text rest d e r off (λ ds f next more declares here allowed. no_item (f, next) (definition_at rest) here none)
    (λ h. no_line_told e.line text rest line) (λ h. absurd (omega (arith, h)))

pub bad_end : (how : ReadOptions) (text rest : List ℕ) (d : Declarations) (e : SpecError) → Reading how text d rest → length rest ≡ 0
    → e.line ≡ 1 + newlines text + (if ends_line text then 0 else 1) → IsFaultyLine AreAllowed text e
bad_end how text rest d e r none line =
    faulty how text rest d e r (no_separator_at_end rest none) (λ ds f next more declares here allowed. no_item (f, next) (definition_at rest) here (no_definition_at_end rest none))
    (λ h. absurd (omega (arith, h))) (λ h. line)

pub bad_taking : (how : ReadOptions) (text rest next : List ℕ) (d : Declarations) (f : DefinitionLine) (e : SpecError) → Reading how text d rest → begins (codes "%%") rest ≡ false → 0 < length rest → definition_at rest ≡ Some (f, next)
    → e.line + newlines rest ≡ 1 + newlines text → UnlessMemory e.kind ((how : ReadOptions) (ds more : List DefinitionLine) → Declares how ds d → AreAllowed (ds ++ f ∷ more) → ⊥) → UnlessMemory e.kind (IsFaultyLine AreAllowed text e)
bad_taking how text rest next d f e r off some here line h =
    unless_memory e.kind ((how : ReadOptions) (ds more : List DefinitionLine) → Declares how ds d → AreAllowed (ds ++ f ∷ more) → ⊥) (IsFaultyLine AreAllowed text e) (λ refused.
    faulty how text rest d e r off (λ ds g next' more declares here' allowed. refused how ds more declares (subst (λ z. AreAllowed (ds ++ z ∷ more)) (some_pair g f next' next (sym here' ∙ here)).0 allowed))
    (λ k. no_line_told e.line text rest line) (λ k. absurd (omega (arith, k)))) h

-- the line after the last
pub end_line : (text rest : List ℕ) (line told : ℕ) (v : Bool) → v ≡ ends_line text → length rest ≡ 0 → line + newlines rest ≡ 1 + newlines text → (v ≡ true → told ≡ line) → (v ≡ false → told ≡ line + 1)
    → told ≡ 1 + newlines text + (if ends_line text then 0 else 1)
end_line text [] line told true e none count same more = same refl ∙ subst (λ b. line ≡ 1 + newlines text + (if b then 0 else 1)) e (omega (arith, count))
end_line text [] line told false e none count same more = more refl ∙ subst (λ b. line + 1 ≡ 1 + newlines text + (if b then 0 else 1)) e (omega (arith, count))
end_line text (c ∷ rest) line told v e none count same more = absurd (omega arith)
