-- What follows an item of the rules section is the end of its text.
use Rattle.std.proofs.Common.{◌≡◌, ℕ, zero, suc, ◌==◌, ◌&&◌, ◌||◌, Bool, true, false, not, if◌then◌else◌, List, [], ◌∷◌, length, drop, Option, Some, None, refl, ap, subst, sym, ◌∙◌}
use Rattle.std.specs.Prelude.{codes}
use Rattle.lex_semantics.specs.ByteSets.{is_blank}
use Rattle.lex_semantics.specs.Reading.{after_blanks, after_run, take_run, begins, take_up_to}
use Rattle.lexspec_actions.specs.ByteSteps as C
use Rattle.lexspec_actions.specs.ByteSteps.{slash, block, star, line, after_byte}
use Rattle.lexspec_lines.specs.Lines.{line_in}
use Rattle.lexspec.specs.ItemRuns.{Item, skipped, skipped_line, skipped_block, rule, IsLine, Subject, at_end, matching, IsSubject}
use Rattle.lexspec.specs.ActionSteps.{ActionPlace, code, outside, string, escaped, action_in, with_byte, next_place, depth_after}
use Rattle.lexspec.proofs.ActionPieces.{action_is}
use Rattle.lexspec.proofs.SubjectLaws.{to_cut}
use Rattle.lex_semantics.specs.Active.{contains}
use Rattle.lexspec_lines.specs.Runs.{split_before}
use Rattle.lexspec.specs.Items.{Conditions, unlisted, conditions_at}
use Rattle.lexspec_lines.proofs.SectionLaws.{EndsWith, ends_on, after_line, after_block_ends, dropped, Each, each_some, each_none, each_if}
use Rattle.lexspec.proofs.OneItems.{line_text}

abbrev Split : Type 0
Split = List ℕ × List ℕ

longer : (c : ℕ) (t rest : List ℕ) → EndsWith t rest → EndsWith (c ∷ t) rest
longer c t rest h = (c ∷ h.0, ap (λ z. c ∷ z) h.1)

run_ends : (test : ℕ → Bool) (t : List ℕ) → EndsWith t (after_run test t)
unfolding take_up_to
run_ends test [] = ([], refl)
run_ends test (c ∷ t) = from (test c) (run_ends test t)
  where
    from : (b : Bool) → EndsWith t (after_run test t) → EndsWith (c ∷ t) (if b then (let s : Split = (c ∷ (take_run test t).0, (take_run test t).1) in s) else ([], c ∷ t)).1
    from true h = longer c t (after_run test t) h
    from false h = ([], refl)

pub blanks_end : (t : List ℕ) → EndsWith t (after_blanks t)
blanks_end t = run_ends is_blank t

abbrev pub Ends : List ℕ → Option Split → Type 0
Ends t o = Each o (λ (x : Split). EndsWith t x.1)

byte_ends : (c : ℕ) (t : List ℕ) (o : Option Split) → Ends t o → Ends (c ∷ t) (with_byte c o)
byte_ends c t None h = each_none (λ (x : Split). EndsWith (c ∷ t) x.1)
byte_ends c t (Some x) h = each_some (λ (y : Split). EndsWith (c ∷ t) y.1) (c ∷ x.0, x.1) (longer c t x.1 (h x refl))

closed : (t : List ℕ) (front : List ℕ) → Ends t (Some (front, t))
closed t front = each_some (λ (x : Split). EndsWith t x.1) (front, t) ([], refl)

ended : (c : ℕ) (t : List ℕ) → Ends (c ∷ t) (Some ([], t))
ended c t = each_some (λ (x : Split). EndsWith (c ∷ t) x.1) ([], t) (c ∷ [], refl)

nothing : (t : List ℕ) → Ends t None
nothing t = each_none (λ (x : Split). EndsWith t x.1)

either : (t : List ℕ) (b : Bool) (x y : Option Split) → Ends t x → Ends t y → Ends t (if b then x else y)
either t b x y h k = each_if (λ (z : Split). EndsWith t z.1) b x y h k

pub action_ends : (t : List ℕ) (p : ActionPlace) (n : ℕ) → Ends t (action_in p n t)
action_ends [] (code C.outside) zero = closed [] []
action_ends [] (code slash) zero = closed [] []
action_ends [] (code line) zero = closed [] []
action_ends [] (code block) zero = nothing []
action_ends [] (code star) zero = nothing []
action_ends [] string zero = nothing []
action_ends [] escaped zero = nothing []
action_ends [] (code C.outside) (suc n) = nothing []
action_ends [] (code slash) (suc n) = nothing []
action_ends [] (code line) (suc n) = nothing []
action_ends [] (code block) (suc n) = nothing []
action_ends [] (code star) (suc n) = nothing []
action_ends [] string (suc n) = nothing []
action_ends [] escaped (suc n) = nothing []
action_ends (c ∷ t) (code C.outside) zero = either (c ∷ t) (c == 10 && 0 == 0) _ _ (ended c t) (byte_ends c t _ (action_ends t (next_place c) (depth_after 0 c)))
action_ends (c ∷ t) (code slash) zero =
    either (c ∷ t) (c == 42 || c == 47) _ _ (byte_ends c t _ (action_ends t (code (after_byte slash c)) 0))
    (either (c ∷ t) (c == 10 && 0 == 0) _ _ (ended c t) (byte_ends c t _ (action_ends t (next_place c) (depth_after 0 c))))
action_ends (c ∷ t) (code block) zero = byte_ends c t _ (action_ends t (code (after_byte block c)) 0)
action_ends (c ∷ t) (code star) zero = byte_ends c t _ (action_ends t (code (after_byte star c)) 0)
action_ends (c ∷ t) (code line) zero = either (c ∷ t) (c == 10 && 0 == 0) _ _ (ended c t) (byte_ends c t _ (action_ends t (code (after_byte line c)) 0))
action_ends (c ∷ t) string zero = either (c ∷ t) (c == 10) _ _ (nothing (c ∷ t)) (byte_ends c t _ (action_ends t (if c == 34 then outside else if c == 92 then escaped else string) 0))
action_ends (c ∷ t) escaped zero = either (c ∷ t) (c == 10) _ _ (nothing (c ∷ t)) (byte_ends c t _ (action_ends t string 0))
action_ends (c ∷ t) (code C.outside) (suc n) = either (c ∷ t) (c == 10 && suc n == 0) _ _ (ended c t) (byte_ends c t _ (action_ends t (next_place c) (depth_after (suc n) c)))
action_ends (c ∷ t) (code slash) (suc n) =
    either (c ∷ t) (c == 42 || c == 47) _ _ (byte_ends c t _ (action_ends t (code (after_byte slash c)) (suc n)))
    (either (c ∷ t) (c == 10 && suc n == 0) _ _ (ended c t) (byte_ends c t _ (action_ends t (next_place c) (depth_after (suc n) c))))
action_ends (c ∷ t) (code block) (suc n) = byte_ends c t _ (action_ends t (code (after_byte block c)) (suc n))
action_ends (c ∷ t) (code star) (suc n) = byte_ends c t _ (action_ends t (code (after_byte star c)) (suc n))
action_ends (c ∷ t) (code line) (suc n) = either (c ∷ t) (c == 10 && suc n == 0) _ _ (ended c t) (byte_ends c t _ (action_ends t (code (after_byte line c)) (suc n)))
action_ends (c ∷ t) string (suc n) = either (c ∷ t) (c == 10) _ _ (nothing (c ∷ t)) (byte_ends c t _ (action_ends t (if c == 34 then outside else if c == 92 then escaped else string) (suc n)))
action_ends (c ∷ t) escaped (suc n) = either (c ∷ t) (c == 10) _ _ (nothing (c ∷ t)) (byte_ends c t _ (action_ends t string (suc n)))

pub conditions_end : (t : List ℕ) → Each (conditions_at t) (λ (x : Conditions × List ℕ). EndsWith t x.1)
unfolding conditions_at
conditions_end t =
    let P : Conditions × List ℕ → Type 0 = λ x. EndsWith t x.1 in
    let rest = (split_before (contains (codes ">\n")) (drop 1 t)).1 in
    each_if P (begins (codes "<<EOF>>") t || not (begins (codes "<") t)) _ _ (each_some P (unlisted, t) ([], refl))
    (each_if P (not (begins (codes ">") rest)) _ _ (each_none P)
    (each_some P (_, drop 1 rest) (ends_on t (drop 1 t) (drop 1 rest) (dropped 1 t) (ends_on (drop 1 t) rest (drop 1 rest) (run_ends _ (drop 1 t)) (dropped 1 rest)))))

by_drop : (t rest : List ℕ) (n : ℕ) → rest ≡ drop n t → EndsWith t rest
by_drop t rest n e = subst (EndsWith t) (sym e) (dropped n t)

pub subject_ends : (t : List ℕ) (s : Subject) (rest : List ℕ) → IsSubject t s rest → EndsWith t rest
subject_ends t at_end rest (on, e, b) = by_drop t rest 7 e
subject_ends t (matching true head after) rest (on, off, p) =
    let (stop, at, special, cut, parts, e) = to_cut (drop 1 t) head after rest p in ends_on t (drop 1 t) rest (dropped 1 t) (by_drop (drop 1 t) rest stop e)
subject_ends t (matching false head after) rest (on, off, p) = let (stop, at, special, cut, parts, e) = to_cut t head after rest p in by_drop t rest stop e

-- an item is the front of the text
pub item_ends : (t : List ℕ) (i : Item) (rest : List ℕ) → IsLine t i rest → EndsWith t rest
item_ends t skipped rest (text, here, blank) = subst (EndsWith t) (line_text t text rest here).1 (after_line t)
item_ends t skipped_line rest (text, here, some, blank) = subst (EndsWith t) (line_text t text rest here).1 (after_line t)
item_ends t skipped_block rest (opens, after) = ends_on t (line_in t).1 rest (after_line t) (after_block_ends (suc (length t)) (line_in t).1 rest after)
item_ends t (rule asked subject action) rest (starts, u, v, text, list, cut, ends, is) =
    ends_on t u rest (conditions_end t (asked, u) list)
    (ends_on u v rest (subject_ends u subject v cut) (ends_on v (after_blanks v) rest (blanks_end v) (action_ends (after_blanks v) outside 0 (text, rest) (sym (action_is (after_blanks v)) ∙ ends))))
