-- Where no byte is told, none is copied.
use Rattle.std.proofs.Common.{◌≡◌, ◌∙◌, ℕ, zero, suc, ◌+◌, ◌<◌, ◌≤◌, ◌⊎◌, Bool, true, false, List, [], ◌∷◌, ◌++◌, length, map, drop, Option, Some, None, refl, sym, ap, subst, arith, append_assoc, inl, inr, if◌then◌else◌, get_or}
use Rattle.std.specs.Prelude.{slice_get, unwrap_or}
use Rattle.std.proofs.lemmas.List.{at_drop_more}
use Rattle.std.proofs.lemmas.Option.{slice_get_cases}
use Rattle.lex_semantics.specs.Spec.{Spec, Rule, Condition}
use Rattle.lexlook_specs.specs.Copied.{AreCopied, IsFirstCopied}
use Rattle.lexlook_specs.specs.Matches.{matches_of}
use Rattle.lexlook_text.specs.DeclaredNames.{declared_conditions, first_named}
use Rattle.lexspec_lines.specs.Lines.{without_returns}
use Rattle.lexspec_actions.specs.Views.{condition_of}
use Rattle.lexspec_actions.specs.declared.condition.Condition.{Condition as Declared}
use Rattle.lexlook_check.specs.Copies.{CopiesNothing, copies_at, copies_from, copies_in, is_met, met_byte}
use Rattle.lexlook_check.specs.Findings.{known_lines}
use Rattle.lexlook_check.specs.declared.findings.Finding.{Finding}

first_none : (place : Option (ℕ × ℕ × List ℕ)) (o : Option ℕ) (rest : List Finding) → copies_at place o ++ rest ≡ [] → o ≡ None
first_none place None rest e = refl
first_none place (Some b) rest e = absurd cc

rest_none : (place : Option (ℕ × ℕ × List ℕ)) (o : Option ℕ) (rest : List Finding) → copies_at place o ++ rest ≡ [] → rest ≡ []
rest_none place None rest e = e
rest_none place (Some b) rest e = absurd cc

-- where nothing is told, no condition has such a byte
none_at : (rules : List Rule) (copied : List (Option ℕ)) (places : List (ℕ × ℕ × List ℕ)) (n : ℕ) (ks : List Condition) (i : ℕ) → i < length ks
    → copies_from rules copied places n ks ≡ [] → met_byte rules copied (n + i) ≡ None
none_at rules copied places n [] i low e = absurd (omega (arith, low))
none_at rules copied places n (k ∷ ks) zero low e =
    let same : n ≡ n + 0 = omega arith in
    subst (λ (m : ℕ). met_byte rules copied m ≡ None) same (first_none (first_named k.name places) (met_byte rules copied n) _ e)
none_at rules copied places n (k ∷ ks) (suc i) low e =
    let same : suc n + i ≡ n + suc i = omega arith in
    subst (λ (m : ℕ). met_byte rules copied m ≡ None) same
    (none_at rules copied places (suc n) ks i (omega (arith, low)) (rest_none (first_named k.name places) (met_byte rules copied n) _ e))

-- and where none has one, nothing is told
none_told : (rules : List Rule) (copied : List (Option ℕ)) (places : List (ℕ × ℕ × List ℕ)) (n : ℕ) (ks : List Condition)
    → ((i : ℕ) → i < length ks → met_byte rules copied (n + i) ≡ None) → copies_from rules copied places n ks ≡ []
none_told rules copied places n [] h = refl
none_told rules copied places n (k ∷ ks) h =
    let same : n + 0 ≡ n = omega arith in
    let here : met_byte rules copied n ≡ None = subst (λ (m : ℕ). met_byte rules copied m ≡ None) same (h 0 (omega arith)) in
    ap (λ (o : Option ℕ). copies_at (first_named k.name places) o ++ copies_from rules copied places (suc n) ks) here
    ∙ none_told rules copied places (suc n) ks (λ i low.
    let next : n + suc i ≡ suc n + i = omega arith in
    subst (λ (m : ℕ). met_byte rules copied m ≡ None) next (h (suc i) (omega (arith, low))))

-- the entry of a condition
entry : (S : Spec) (copied : List (Option ℕ)) (n : ℕ) → AreCopied (matches_of S) copied → n < length S.conditions
    → (o : Option ℕ) × (slice_get copied n ≡ Some o) × IsFirstCopied (matches_of S) n o
entry S copied n are low = go (slice_get_cases copied n).1
  where
    go : ((x : Option ℕ) × (n < length copied) × (slice_get copied n ≡ Some x) × (get_or copied n x ≡ x)) ⊎ ((length copied ≤ n) × (slice_get copied n ≡ None))
        → (o : Option ℕ) × (slice_get copied n ≡ Some o) × IsFirstCopied (matches_of S) n o
    go (inl (x, within, some, got)) = (x, some, are.first n x some)
    go (inr (far, past)) = let each : length copied ≡ length S.conditions = are.each in absurd (omega (arith, far, low, each))

-- of a condition in which a match may be made no byte is told: then none is copied
pub none_copied : (S : Spec) (copied : List (Option ℕ)) (text : List ℕ) → AreCopied (matches_of S) copied → copies_in S copied text ≡ [] → CopiesNothing S
none_copied S copied text are none n b low met byte copies =
    let (o, some, first) = entry S copied n are low in
    let zeroth : 0 + n ≡ n = omega arith in
    let silent : met_byte S.rules copied n ≡ None =
    subst (λ (m : ℕ). met_byte S.rules copied m ≡ None) zeroth (none_at S.rules copied (declared_conditions (known_lines (without_returns text))) 0 S.conditions n low none) in
    let entered : unwrap_or (slice_get copied n) None ≡ met_byte S.rules copied n = ap (λ (t : Bool). if t then unwrap_or (slice_get copied n) None else None) (sym met) in
    let is : o ≡ None = ap (λ (z : Option (Option ℕ)). unwrap_or z None) (sym some) ∙ entered ∙ silent in
    subst (λ (z : Option ℕ). IsFirstCopied (matches_of S) n z) is first b byte copies

-- and the other way round
no_entry : (S : Spec) (n : ℕ) → n < length S.conditions → is_met S.rules n ≡ true → CopiesNothing S → (o : Option ℕ) → IsFirstCopied (matches_of S) n o → o ≡ None
no_entry S n low met nothing None first = refl
no_entry S n low met nothing (Some b) first = absurd (nothing n b low met first.0 first.1)

no_met_byte : (S : Spec) (copied : List (Option ℕ)) (n : ℕ) → AreCopied (matches_of S) copied → n < length S.conditions → CopiesNothing S → met_byte S.rules copied n ≡ None
no_met_byte S copied n are low nothing = go (is_met S.rules n) refl
  where
    go : (t : Bool) → is_met S.rules n ≡ t → (if t then unwrap_or (slice_get copied n) None else None) ≡ None
    go false e = refl
    go true e =
        let (o, some, first) = entry S copied n are low in
        ap (λ (z : Option (Option ℕ)). unwrap_or z None) some ∙ no_entry S n low e nothing o first

pub none_to_tell : (S : Spec) (copied : List (Option ℕ)) (text : List ℕ) → AreCopied (matches_of S) copied → CopiesNothing S → copies_in S copied text ≡ []
none_to_tell S copied text are nothing =
    none_told S.rules copied (declared_conditions (known_lines (without_returns text))) 0 S.conditions (λ i low.
    let zeroth : i ≡ 0 + i = omega arith in
    subst (λ (m : ℕ). met_byte S.rules copied m ≡ None) zeroth (no_met_byte S copied i are low nothing))

-- what is told of the conditions and places that a text has
pub told_in : (S : Spec) (copied : List (Option ℕ)) (text : List ℕ) (found : List Finding) (rules : List Rule) (ks : List Condition) (lines : List (ℕ × List ℕ)) (places : List (ℕ × ℕ × List ℕ))
    → rules ≡ S.rules → ks ≡ S.conditions → lines ≡ known_lines (without_returns text) → places ≡ declared_conditions lines
    → found ≡ copies_from rules copied places 0 ks → found ≡ copies_in S copied text
told_in S copied text found rules ks lines places of_rules of_conditions read are h =
    h ∙ ap (λ (rs : List Rule). copies_from rs copied places 0 ks) of_rules ∙ ap (λ (l : List Condition). copies_from S.rules copied places 0 l) of_conditions
    ∙ ap (λ (ps : List (ℕ × ℕ × List ℕ)). copies_from S.rules copied ps 0 S.conditions) (are ∙ ap declared_conditions read)

-- what is told of one condition more
pub one_more : (rules : List Rule) (copied : List (Option ℕ)) (places : List (ℕ × ℕ × List ℕ)) (xs : List Declared) (i : ℕ) (x : Declared) (old next whole : List Finding)
    → i < length xs → x ≡ get_or xs i x → next ≡ old ++ copies_at (first_named x.name.items places) (met_byte rules copied i)
    → old ++ copies_from rules copied places i (map condition_of (drop i xs)) ≡ whole → next ++ copies_from rules copied places (i + 1) (map condition_of (drop (i + 1) xs)) ≡ whole
one_more rules copied places xs i x old next whole low is new before =
    let part = λ (k : Declared). copies_at (first_named k.name.items places) (met_byte rules copied i) in
    let left = map condition_of (drop (i + 1) xs) in
    let count : i + 1 ≡ suc i = omega arith in
    ap (λ (z : List Finding). z ++ copies_from rules copied places (i + 1) left) new
    ∙ append_assoc old (part x) (copies_from rules copied places (i + 1) left)
    ∙ ap (λ (n : ℕ). old ++ (part x ++ copies_from rules copied places n left)) count
    ∙ ap (λ (k : Declared). old ++ (part k ++ copies_from rules copied places (suc i) left)) is
    ∙ sym (at_drop_more (λ (ds : List Declared). old ++ copies_from rules copied places i (map condition_of ds)) xs i x low)
    ∙ before
