-- What stands before the action of a rule.
use Rattle.std.proofs.Common.{◌≡◌, ℕ, zero, suc, ◌+◌, ◌-◌, ◌==◌, ◌||◌, Bool, true, false, not, if◌then◌else◌, List, [], ◌∷◌, length, take, drop, Option, Some, None, ◌⊎◌, inl, inr, refl, sym, ap, subst, ◌∙◌, arith}
use Rattle.std.specs.Prelude.{codes}
use Rattle.lex_semantics.specs.ByteSets.{same_bytes}
use Rattle.lex_semantics.specs.Reading.{begins, is_empty, take_up_to}
use Rattle.lexspec_lines.specs.Lines.{line_in}
use Rattle.lexspec_lines.specs.Runs.{split_before}
use Rattle.lexre.specs.Cutting.{IsCutting}
use Rattle.lexre.proofs.CuttingLaws.{one_cutting}
use Rattle.lexspec.specs.ItemRuns.{Trailing, no_trail, line_end, pattern_after, Subject, at_end, matching, IsSides, IsSubject}
use Rattle.lexspec.specs.Items.{Conditions, unlisted, every, only, conditions_at}
use Rattle.lexspec_lines.proofs.OneSection.{no_true}
use Rattle.lexspec.specs.SubjectViews.{parts, sides}
use Rattle.lexspec_lines.proofs.TextLaws.{Other, decide}
use Rattle.lex_semantics.specs.Active.{contains}
use Rattle.std.proofs.lemmas.List.{drop-drop}

abbrev Split : Type 0
Split = List ℕ × List ℕ

abbrev with_first : ℕ → Split → Split
with_first c s = (c ∷ s.0, s.1)

abbrev choose : Bool → Split → Split → Split
choose b x y = if b then x else y

pub drop_one : (n : ℕ) (t : List ℕ) → drop (suc n) t ≡ drop 1 (drop n t)
drop_one zero t = refl
drop_one (suc n) [] = refl
drop_one (suc n) (c ∷ t) = drop_one n t

drop_more : (n : ℕ) (t : List ℕ) → drop n (drop 1 t) ≡ drop (n + 1) t
drop_more n t = let same : 1 + n ≡ n + 1 = omega arith in drop-drop n 1 t ∙ ap (λ m. drop m t) same

after_two : (n : ℕ) (t : List ℕ) → drop 1 (drop (n + 1) t) ≡ drop (n + 2) t
after_two n t = let same : n + 1 + 1 ≡ n + 2 = omega arith in drop-drop 1 (n + 1) t ∙ ap (λ m. drop m t) same

pub sides_slash : (t front u v w : List ℕ) (stop at count : ℕ) → front ≡ take at t → u ≡ drop at t → v ≡ drop 1 u → count ≡ stop - at - 1 → w ≡ take count v
    → ◌≡◌ {A = Option (List ℕ × Trailing)} (Some (front, pattern_after w)) (sides t stop (Some at) false)
sides_slash t front u v w stop at count a b c d e =
    let some : w ≡ take (stop - suc at) (drop (suc at) t) =
    e ∙ ap (λ n. take n v) (let same : count ≡ stop - suc at = omega arith in same) ∙ ap (take (stop - suc at)) (c ∙ ap (drop 1) b ∙ sym (drop_one at t)) in
    ap (λ z. Some (z, pattern_after w)) a ∙ ap (λ z. Some (take at t, pattern_after z)) some

-- a list goes up to the sign that closes it, on its line

abbrev line_list : List ℕ → Split
line_list u = split_before (λ c. c == 62) (line_in u).0

abbrev sign_list : List ℕ → Split
sign_list u = split_before (contains (codes ">\n")) u

abbrev IsListed : List ℕ → Type 0
IsListed u = ((sign_list u).0 ≡ (line_list u).0) × (begins (codes ">") (sign_list u).1 ≡ not (is_empty (line_list u).1)) × ((sign_list u).1 ≡ drop (length (line_list u).0) u)

list_listed : (u : List ℕ) → IsListed u
unfolding take_up_to
list_listed [] = (refl, refl, refl)
list_listed (c ∷ t) = from (list_listed t) (decide 10 c) (decide 62 c)
  where
    from : IsListed t → (10 ≡ c) ⊎ Other 10 c → (62 ≡ c) ⊎ Other 62 c → IsListed (c ∷ t)
    from h (inl e) k = subst (λ z. IsListed (z ∷ t)) e (refl, refl, refl)
    from h (inr l) (inl e) = subst (λ z. IsListed (z ∷ t)) e (refl, refl, refl)
    from h (inr l) (inr k) =
        let lines : line_list (c ∷ t) ≡ with_first c (line_list t) = rw (l.1, k.1) refl in
        let signs : sign_list (c ∷ t) ≡ with_first c (sign_list t) = rw (l.0, k.0) refl in (
          ap (λ (s : Split). s.0) signs ∙ ap (λ z. c ∷ z) h.0 ∙ ap (λ (s : Split). s.0) (sym lines),
          ap (λ (s : Split). begins (codes ">") s.1) signs ∙ h.1 ∙ ap (λ (s : Split). not (is_empty s.1)) (sym lines),
          ap (λ (s : Split). s.1) signs ∙ h.2 ∙ ap (λ (s : Split). drop (length s.0) (c ∷ t)) (sym lines),
        )

abbrev listed_after : List ℕ → Split → Option (Conditions × List ℕ)
listed_after t (inside, []) = None
listed_after t (inside, c ∷ closing) = Some (if same_bytes inside (codes "*") then every else only (parts inside), drop (length inside + 2) t)

-- the text begins with a list, and this stands before its end, if it has one on its line
pub record OpensList (t inside closing : List ℕ) : Type 0 where
  pub no_eof : begins (codes "<<EOF>>") t ≡ false
  pub opens : begins (codes "<") t ≡ true
  pub text : List ℕ
  pub rest : List ℕ
  pub line : ◌≡◌ {A = Split} (line_in (drop 1 t)) (text, rest)
  pub split : ◌≡◌ {A = Split} (split_before (λ c. c == 62) text) (inside, closing)

abbrev asked_for : List ℕ → Bool → Bool → List ℕ → Bool → List ℕ → Option (Conditions × List ℕ)
asked_for t no_eof opens inside closed rest =
    if no_eof || not opens then Some (unlisted, t)
    else if not closed then None
    else Some (if same_bytes inside (codes "*") then every else only (parts inside), drop 1 rest)

list_step : (t inside closing : List ℕ) → OpensList t inside closing → conditions_at t ≡ listed_after t (inside, closing)
unfolding conditions_at
list_step t inside closing h = whole ∙ by_closing closing
  where
    line : line_list (drop 1 t) ≡ (inside, closing)
    line = ap (λ (s : Split). split_before (λ c. c == 62) s.0) h.line ∙ h.split

    known : IsListed (drop 1 t)
    known = list_listed (drop 1 t)

    first : (sign_list (drop 1 t)).0 ≡ inside
    first = known.0 ∙ ap (λ (s : Split). s.0) line

    closed : begins (codes ">") (sign_list (drop 1 t)).1 ≡ not (is_empty closing)
    closed = known.1 ∙ ap (λ (s : Split). not (is_empty s.1)) line

    rest : (sign_list (drop 1 t)).1 ≡ drop (length inside + 1) t
    rest = known.2 ∙ ap (λ (s : Split). drop (length s.0) (drop 1 t)) line ∙ drop_more (length inside) t

    whole : conditions_at t ≡ asked_for t false true inside (not (is_empty closing)) (drop (length inside + 1) t)
    whole =
        ap (λ b. asked_for t b (begins (codes "<") t) (sign_list (drop 1 t)).0 (begins (codes ">") (sign_list (drop 1 t)).1) (sign_list (drop 1 t)).1) h.no_eof
        ∙ ap (λ b. asked_for t false b (sign_list (drop 1 t)).0 (begins (codes ">") (sign_list (drop 1 t)).1) (sign_list (drop 1 t)).1) h.opens
        ∙ ap (λ z. asked_for t false true z (begins (codes ">") (sign_list (drop 1 t)).1) (sign_list (drop 1 t)).1) first
        ∙ ap (λ b. asked_for t false true inside b (sign_list (drop 1 t)).1) closed
        ∙ ap (λ z. asked_for t false true inside (not (is_empty closing)) z) rest

    by_closing : (closing : List ℕ) → asked_for t false true inside (not (is_empty closing)) (drop (length inside + 1) t) ≡ listed_after t (inside, closing)
    by_closing [] = refl
    by_closing (c ∷ closing) = ap (λ z. Some (if same_bytes inside (codes "*") then every else only (parts inside), z)) (after_two (length inside) t)

pub list_open : (t inside closing : List ℕ) → OpensList t inside closing → length closing ≡ 0 → conditions_at t ≡ None
list_open t inside [] h e = list_step t inside [] h
list_open t inside (c ∷ closing) h e = absurd (omega arith)

pub list_every : (t inside closing rest : List ℕ) → OpensList t inside closing → (length closing ≡ 0 → ⊥) → rest ≡ drop (length inside + 2) t → same_bytes inside (codes "*") ≡ true
    → conditions_at t ≡ Some (every, rest)
list_every t inside [] rest h some e star = absurd (some refl)
list_every t inside (c ∷ closing) rest h some e star =
    list_step t inside (c ∷ closing) h
    ∙ ap (λ b. Some (if b then every else only (parts inside), drop (length inside + 2) t)) star ∙ ap (λ z. Some (every, z)) (sym e)

pub list_only : (t inside closing rest : List ℕ) → OpensList t inside closing → (length closing ≡ 0 → ⊥) → rest ≡ drop (length inside + 2) t → same_bytes inside (codes "*") ≡ false
    → conditions_at t ≡ Some (only (parts inside), rest)
list_only t inside [] rest h some e off = absurd (some refl)
list_only t inside (c ∷ closing) rest h some e off =
    list_step t inside (c ∷ closing) h
    ∙ ap (λ b. Some (if b then every else only (parts inside), drop (length inside + 2) t)) off ∙ ap (λ z. Some (only (parts inside), z)) (sym e)

-- where no pattern can be cut

-- a pattern by its cutting, as the code finds its sides
abbrev pub CutPattern : List ℕ → List ℕ → Trailing → List ℕ → Type 0
CutPattern t head after rest =
    (stop : ℕ) × (at : Option ℕ) × (special : Bool) × IsCutting t stop at false special × (sides t stop at special ≡ Some (head, after)) × (rest ≡ drop stop t)

pub to_cut : (t head : List ℕ) (after : Trailing) (rest : List ℕ) → IsSides t head after rest → CutPattern t head after rest
to_cut t head no_trail rest (stop, cut, head_is, rest_is) = (stop, None, false, cut, ap (λ z. Some (z, no_trail)) (sym head_is), rest_is)
to_cut t head line_end rest (stop, cut, head_is, rest_is) = (stop, None, true, cut, ap (λ z. Some (z, line_end)) (sym head_is), rest_is)
to_cut t head (pattern_after text) rest (stop, at, cut, head_is, text_is, rest_is) =
    (stop, Some at, false, cut, ap (λ z. Some (z, pattern_after (take (stop - suc at) (drop (suc at) t)))) (sym head_is) ∙ ap (λ z. Some (head, pattern_after z)) (sym text_is), rest_is)

abbrev pub NoPattern : List ℕ → Type 0
NoPattern t = (head : List ℕ) (after : Trailing) (rest : List ℕ) → IsSides t head after rest → ⊥

pub uncut : (t : List ℕ) → ((stop : ℕ) (at : Option ℕ) (two special : Bool) → IsCutting t stop at two special → ⊥) → NoPattern t
uncut t none head after rest p = let (stop, at, special, cut, sides_are, rest_is) = to_cut t head after rest p in none stop at false special cut

pub cut_twice : (t : List ℕ) (stop : ℕ) (at : Option ℕ) (two special : Bool) → IsCutting t stop at two special → two ≡ true → NoPattern t
cut_twice t stop at two special h both head after rest p =
    let (stop', at', special', cut, sides_are, rest_is) = to_cut t head after rest p in
    no_true (sym (one_cutting t stop stop' at at' two false special special' h cut).2 ∙ both)

pub no_sides : (t : List ℕ) (stop : ℕ) (at : Option ℕ) (two special : Bool) → IsCutting t stop at two special → sides t stop at special ≡ None → NoPattern t
no_sides t stop at two special h none head after rest p =
    let (stop', at', special', cut, sides_are, rest_is) = to_cut t head after rest p in
    let same = one_cutting t stop stop' at at' two false special special' h cut in
    let one : sides t stop at special ≡ sides t stop' at' special' =
    ap (λ z. sides t z at special) same.0 ∙ ap (λ z. sides t stop' z special) same.1 ∙ ap (λ z. sides t stop' at' z) same.3 in
    no_some (sym none ∙ one ∙ sides_are)
  where
    no_some : ◌≡◌ {A = Option (List ℕ × Trailing)} None (Some (head, after)) → ⊥
    no_some e = cc

abbrev pub NoSubject : List ℕ → Type 0
NoSubject t = (s : Subject) (rest : List ℕ) → IsSubject t s rest → ⊥

pub bare_refused : (t : List ℕ) → begins (codes "<<EOF>>") t ≡ false → begins (codes "^") t ≡ false → NoPattern t → NoSubject t
bare_refused t off bare none at_end rest (on, e, b) = no_true (sym off ∙ on)
bare_refused t off bare none (matching true head after) rest (on, no_end, p) = no_true (sym bare ∙ on)
bare_refused t off bare none (matching false head after) rest (k, no_end, p) = none head after rest p

pub anchored_refused : (t u : List ℕ) → begins (codes "<<EOF>>") t ≡ false → begins (codes "^") t ≡ true → u ≡ drop 1 t → NoPattern u → NoSubject t
anchored_refused t u off bare e none at_end rest (on, f, b) = no_true (sym off ∙ on)
anchored_refused t u off bare e none (matching true head after) rest (on, no_end, p) = none head after rest (subst (λ z. IsSides z head after rest) (sym e) p)
anchored_refused t u off bare e none (matching false head after) rest (k, no_end, p) = no_true (sym k ∙ bare)
