-- The texts of a table's parts.
use Rattle.std.proofs.Common.{◌≡◌, ◌⊎◌, ℕ, zero, suc, ◌+◌, ◌-◌, ◌<◌, ◌≤◌, Bool, true, false, cond, List, [], ◌∷◌, ◌++◌, length, get_or, Result, Ok, Err, refl, sym, ap, subst, ◌∙◌, arith, inl, inr}
use Rattle.std.specs.Prelude.{◌&&◌, ◌||◌, nat_le, nat_lt, ◌==◌, not}
use Rattle.std.specs.Int.{w16, w32, to_be_bytes}
use Rattle.std.specs.List.{flat_map}
use Rattle.std.proofs.lemmas.Bool.Decides.{nat_tests}
use Rattle.std.proofs.lemmas.List.{nil_from_length}
use Rattle.lex_semantics.specs.Text.{IsText, Among, Ascending}
use Rattle.lex_semantics.specs.Spec.{Statement, Echo, Print, Begin, More, Less, Reject, End, Push, Pop, EndAction, Cut, Whole, Head, Trail}
use Rattle.lextab_packed.specs.Table.{Row, RuleOfTable}
use Rattle.lextab_packed.specs.Checks.{Sizes, none_at_0, IsCondition, IsCutInRange, IsTableRule, IsRow, IsSlot}
use Rattle.lextab_file.specs.File.{byte, counted, cut_text, statement_text, end_text, condition_text, rule_text, row_text, slot_text}
use Rattle.lextab_file.specs.Seen.{EachFrom, IsString, MayStand, Seen, unseen, seen_after}
use Rattle.lextab_file.specs.declared.error.ReadError.{ReadError}
use Rattle.lextab_file.specs.Reading.{FieldReader, ◌>>=◌, bad, judged, only_if, paired, seen_as, many, read_byte, read_number, read_bytes, read_long, below, read_positive, read_string, read_literal, end_from, read_end, condition_from, read_condition, whole_of, cut_number, read_cut, bars, arguments, read_statement, read_statements, rule_from, read_rule, above, between, read_accepted, row_from, few, read_row, slot_from, good_check, read_slot}
use Rattle.lex_semantics.specs.ByteSets.{within}
use Rattle.lextab_file.proofs.Forms.{IsReader, bind_ok, same_ok, reads_both, reads_judged, reads_if, reads_as, reads_like, reads_many, reads_byte, reads_bytes, reads_long, reads_short}
use Rattle.lextab_file.proofs.Actions.{and_is, is_and, lt_is, is_lt, le_is, is_le, IsAction, action_is, is_action, InVersion}

-- ---- tests

within_is : (least most n : ℕ) → within least most n ≡ true → (least ≤ n) × (n ≤ most)
within_is least most n h = (grind (arith, nat_tests), grind (arith, nat_tests))

is_within : (least most n : ℕ) → least ≤ n → n ≤ most → within least most n ≡ true
is_within least most n h k = grind (arith, nat_tests)

below_is : (limit n : ℕ) → below limit n ≡ true → n < limit
below_is limit n h = grind (arith, nat_tests)

is_below : (limit n : ℕ) → n < limit → below limit n ≡ true
is_below limit n h = grind (arith, nat_tests)

pub reads_within : (least most : ℕ) → most < 4294967296 → IsReader (to_be_bytes w32) (λ n. (least ≤ n) × (n ≤ most)) (read_long least most)
reads_within least most h = reads_if (to_be_bytes w32) (λ n. n < 4294967296) (λ n. (least ≤ n) × (n ≤ most)) (within least most) (read_number w32) reads_long
    (λ n l e. within_is least most n e) (λ n l. (is_within least most n l.0 l.1, let k = l.1 in omega arith))

pub reads_below : (limit : ℕ) → limit < 4294967296 → IsReader (to_be_bytes w32) (λ n. n < limit) (only_if (below limit) (read_number w32))
reads_below limit h = reads_if (to_be_bytes w32) (λ n. n < 4294967296) (λ n. n < limit) (below limit) (read_number w32) reads_long
    (λ n l e. below_is limit n e) (λ n l. (is_below limit n l, omega arith))

pub reads_byte_below : (limit : ℕ) → limit ≤ 256 → IsReader byte (λ n. n < limit) (only_if (below limit) read_byte)
reads_byte_below limit h = reads_if byte (λ n. n < 256) (λ n. n < limit) (below limit) read_byte reads_byte
    (λ n l e. below_is limit n e) (λ n l. (is_below limit n l, omega arith))

-- ---- strings

abbrev counted_text : {A : Type 0} → (A → List ℕ) → ℕ × List A → List ℕ
counted_text t p = to_be_bytes w32 p.0 ++ flat_map t p.1

reads_counted : (least most : ℕ) (r : FieldReader ℕ) → IsReader (to_be_bytes w32) (λ n. (least ≤ n) × (n ≤ most)) r → IsReader counted (IsString least most) (seen_as (λ p. p.1) (paired r (λ n. read_bytes n)))
reads_counted least most r counts = reads_like counted (λ xs. ((least ≤ length xs) × (length xs ≤ most)) × ((length xs ≡ length xs) × IsText xs)) (IsString least most) (seen_as (λ p. p.1) (paired r (λ n. read_bytes n)))
    (reads_as (λ (p : ℕ × List ℕ). to_be_bytes w32 p.0 ++ p.1) (λ p. ((least ≤ p.0) × (p.0 ≤ most)) × ((length p.1 ≡ p.0) × IsText p.1)) (paired r (λ n. read_bytes n)) (λ p. p.1) (λ xs. (length xs, xs))
    (reads_both (to_be_bytes w32) (λ n. (least ≤ n) × (n ≤ most)) r (λ n xs. xs) (λ n xs. (length xs ≡ n) × IsText xs) (λ n. read_bytes n)
    counts (λ n l. reads_bytes n))
    (λ xs. refl) (λ p l. ap (λ (n : ℕ). (n, p.1)) l.1.0))
    (λ xs l. (l.0, l.1.1)) (λ xs l. (l.0, (refl, l.1)))

pub reads_string : (least most : ℕ) → most < 4294967296 → IsReader counted (IsString least most) (read_string least most)
reads_string least most h = reads_counted least most (read_long least most) (reads_within least most h)

reads_literal : (room : ℕ) (fault : ReadError) → room ≤ 4096 → IsReader counted (IsString 1 room) (read_literal room fault)
reads_literal room fault low = reads_counted 1 room (judged fault (λ n. nat_le n room) (read_long 1 4096))
    (reads_judged (λ b. fault) (to_be_bytes w32) (λ n. (1 ≤ n) × (n ≤ 4096)) (λ n. (1 ≤ n) × (n ≤ room)) (λ n. nat_le n room) (read_long 1 4096) (reads_within 1 4096 (omega arith))
    (λ n l e. (l.0, le_is n room e)) (λ n l. (is_le n room l.1, (l.0, let k = l.1 in omega arith))))

-- ---- conditions

pub reads_end : IsReader end_text (λ e. IsString 0 4096 e.print × (e.status < 64)) read_end
unfolding read_end
reads_end = reads_as
    (λ (p : List ℕ × ℕ). counted p.0 ++ byte p.1) (λ p. IsString 0 4096 p.0 × (p.1 < 64)) _ end_from (λ e. (e.print, e.status))
    (reads_both counted (IsString 0 4096) _ (λ n. byte) (λ n k. k < 64) _ (reads_string 0 4096 (omega arith)) (λ n l. reads_byte_below 64 (omega arith)))
    (λ e. refl) (λ p l. refl)

abbrev ConditionParts : Type 0
ConditionParts = ℕ × (ℕ × EndAction)

pub reads_condition : (z : Sizes) (i : ℕ) → z.states < 4294967296 → IsReader condition_text (IsCondition z.states i) (read_condition z.states)
unfolding read_condition
reads_condition z i h = reads_like condition_text (λ c. (c.start < z.states) × ((c.line_start < z.states) × (IsString 0 4096 c.end.print × (c.end.status < 64)))) (IsCondition z.states i) _
    (reads_as
    (λ (p : ConditionParts). to_be_bytes w32 p.0 ++ (to_be_bytes w32 p.1.0 ++ end_text p.1.1))
    (λ p. (p.0 < z.states) × ((p.1.0 < z.states) × (IsString 0 4096 p.1.1.print × (p.1.1.status < 64))))
    _ condition_from (λ c. (c.start, (c.line_start, c.end)))
    (reads_both (to_be_bytes w32) (λ n. n < z.states) _ (λ n (p : ℕ × EndAction). to_be_bytes w32 p.0 ++ end_text p.1) (λ n p. (p.0 < z.states) × (IsString 0 4096 p.1.print × (p.1.status < 64))) _
    (reads_below z.states h) (λ n l.
    reads_both (to_be_bytes w32) (λ n. n < z.states) _ (λ n. end_text) (λ n e. IsString 0 4096 e.print × (e.status < 64)) _
    (reads_below z.states h) (λ n l. reads_end)))
    (λ c. refl) (λ p l. refl))
    (λ c l. record { start = l.0; line_start = l.1.0; print = l.1.1.0.0.1; bytes = l.1.1.0.1; status = let lt = l.1.1.1 in omega arith })
    (λ c l. (l.start, (l.line_start, (((omega arith, l.print), l.bytes), let le = l.status in omega arith))))

-- ---- one of several, by a tag

chosen : {A : Type 0} (b : Bool) (x y z : A) → cond b x y ≡ z → ((b ≡ true) × (x ≡ z)) ⊎ ((b ≡ false) × (y ≡ z))
chosen true x y z e = inl (refl, e)
chosen false x y z e = inr (refl, e)

refused : {A X : Type 0} {d : ReadError} (x : A) → ◌≡◌ {A = Result A ReadError} (Err d) (Ok x) → X
refused x e = absurd cc

pub tag_is : (k n : ℕ) → (k == n) ≡ true → k ≡ n
tag_is k n e = grind (arith, nat_tests)

taken_as : {A B : Type 0} (f : B → A) (text : A → List ℕ) (m : A → Type 0) (t : B → List ℕ) (l : B → Type 0) (r : FieldReader B) → IsReader t l r
    → (k tag : ℕ) → (k == tag) ≡ true → ((b : B) → l b → text (f b) ≡ tag ∷ t b) → ((b : B) → l b → m (f b))
    → (bytes : List ℕ) (x : A) (rest : List ℕ) → IsText bytes → seen_as f r bytes ≡ Ok (x, rest) → (k ∷ bytes ≡ text x ++ rest) × (IsText rest × m x)
taken_as {A} {B} f text m t l r p k tag same told met bytes x rest fits e =
    let a = bind_ok (r bytes) (λ y. Ok (f y.0, y.1)) (x, rest) e in
    let u = p.takes bytes a.0.0 a.0.1 fits a.1 in
    let parts : k ∷ bytes ≡ text (f a.0.0) ++ a.0.1 = ap (λ (n : ℕ). n ∷ bytes) (tag_is k tag same) ∙ ap (λ (z : List ℕ). tag ∷ z) u.0 ∙ sym (ap (λ (z : List ℕ). z ++ a.0.1) (told a.0.0 u.1.1)) in
    subst (λ (y : A × List ℕ). (k ∷ bytes ≡ text y.0 ++ y.1) × (IsText y.1 × m y.0)) (same_ok _ _ a.2) (parts, (u.1.0, met a.0.0 u.1.1))

-- a tag alone
taken : {A : Type 0} (text : A → List ℕ) (m : A → Type 0) (a : A) (k tag : ℕ) → (k == tag) ≡ true → text a ≡ tag ∷ [] → m a
    → (bytes : List ℕ) (x : A) (rest : List ℕ) → IsText bytes → ◌≡◌ {A = Result (A × List ℕ) ReadError} (Ok (a, bytes)) (Ok (x, rest)) → (k ∷ bytes ≡ text x ++ rest) × (IsText rest × m x)
taken {A} text m a k tag same told met bytes x rest fits e =
    subst (λ (y : A × List ℕ). (k ∷ bytes ≡ text y.0 ++ y.1) × (IsText y.1 × m y.0)) (same_ok _ _ e)
    (ap (λ (n : ℕ). n ∷ bytes) (tag_is k tag same) ∙ sym (ap (λ (z : List ℕ). z ++ bytes) told), (fits, met))

abbrev LowCut : Cut → Type 0
LowCut Whole = Unit {0}
LowCut (Head n) = n < 65536
LowCut (Trail n) = n < 65536

cut_is : (x : Cut) → LowCut x → IsCutInRange x
cut_is Whole h = tt
cut_is (Head n) h = omega arith
cut_is (Trail n) h = omega arith

is_cut : (x : Cut) → IsCutInRange x → LowCut x
is_cut Whole h = tt
is_cut (Head n) h = omega arith
is_cut (Trail n) h = omega arith

pub reads_cut : IsReader cut_text LowCut read_cut
unfolding read_cut
reads_cut = record { takes = take; again = again }
  where
    take : (bytes : List ℕ) (x : Cut) (rest : List ℕ) → IsText bytes → (read_byte bytes >>= λ k. cut_number (bad bytes) k.0 k.1) ≡ Ok (x, rest) → (bytes ≡ cut_text x ++ rest) × (IsText rest × LowCut x)
    take [] x rest fits e = refused (x, rest) e
    take (k ∷ bytes) x rest fits e = elim (chosen (k == 0) _ _ _ e) [
      | inl p ↦ taken_as whole_of cut_text LowCut (to_be_bytes w32) (λ n. n < 1) (only_if (below 1) (read_number w32)) (reads_below 1 (omega arith)) k 0 p.0
          (λ n l. ap (λ (j : ℕ). 0 ∷ to_be_bytes w32 j) (let z : 0 ≡ n = omega arith in z)) (λ n l. tt) bytes x rest fits.1 p.1
      | inr q ↦ elim (chosen (k == 1) _ _ _ q.1) [
        | inl p ↦ taken_as Head cut_text LowCut (to_be_bytes w32) (λ n. n < 65536) (only_if (below 65536) (read_number w32)) (reads_below 65536 (omega arith)) k 1 p.0 (λ n l. refl) (λ n l. l) bytes x rest fits.1 p.1
        | inr q ↦ elim (chosen (k == 2) _ _ _ q.1) [
          | inl p ↦ taken_as Trail cut_text LowCut (to_be_bytes w32) (λ n. n < 65536) (only_if (below 65536) (read_number w32)) (reads_below 65536 (omega arith)) k 2 p.0 (λ n l. refl) (λ n l. l) bytes x rest fits.1 p.1
          | inr q ↦ refused (x, rest) q.1
        ]
      ]
    ]

    again : (x : Cut) (rest : List ℕ) → LowCut x → (read_byte (cut_text x ++ rest) >>= λ k. cut_number (bad (cut_text x ++ rest)) k.0 k.1) ≡ Ok (x, rest)
    again Whole rest h = ap (λ (o : Result (ℕ × List ℕ) ReadError). o >>= λ y. Ok (whole_of y.0, y.1)) ((reads_below 1 (omega arith)).again 0 rest (omega arith))
    again (Head n) rest h = ap (λ (o : Result (ℕ × List ℕ) ReadError). o >>= λ y. Ok (Head y.0, y.1)) ((reads_below 65536 (omega arith)).again n rest h)
    again (Trail n) rest h = ap (λ (o : Result (ℕ × List ℕ) ReadError). o >>= λ y. Ok (Trail y.0, y.1)) ((reads_below 65536 (omega arith)).again n rest h)

reads_positive : IsReader (to_be_bytes w16) (λ n. (1 ≤ n) × (n < 65536)) read_positive
reads_positive = reads_if (to_be_bytes w16) (λ n. n < 65536) (λ n. (1 ≤ n) × (n < 65536)) (λ n. nat_lt 0 n) (read_number w16) reads_short
    (λ n l e. (let lt = lt_is 0 n e in omega arith, l)) (λ n l. (is_lt 0 n (let le = l.0 in omega arith), l.1))

or_is : (a b : Bool) → (a || b) ≡ false → (a ≡ false) × (b ≡ false)
or_is true b e = absurd cc
or_is false b e = (refl, e)

is_or : (a b : Bool) → a ≡ false → b ≡ false → (a || b) ≡ false
is_or a b h k = rw (h, k) refl

not_lt : (a b : ℕ) → nat_lt a b ≡ false → b ≤ a
not_lt a b h = grind (arith, nat_tests)

is_not_lt : (a b : ℕ) → b ≤ a → nat_lt a b ≡ false
is_not_lt a b h = grind (arith, nat_tests)

-- a tag that may stand there, by the tag
free : (s : Seen) (k tag : ℕ) → bars s k ≡ false → (k == tag) ≡ true → bars s tag ≡ false
free s k tag h same = subst (λ (n : ℕ). bars s n ≡ false) (tag_is k tag same) h

unbarred : {A : Type 0} (b : Bool) (d : ReadError) (r : Result (A × List ℕ) ReadError) (x : A) (rest : List ℕ) → cond b (Err d) r ≡ Ok (x, rest) → (b ≡ false) × (r ≡ Ok (x, rest))
unbarred true d r x rest e = absurd cc
unbarred false d r x rest e = (refl, e)

on : (b : Bool) → not b ≡ false → b ≡ true
on true h = refl
on false h = absurd cc

pub reads_statement : (conditions : ℕ) (s : Seen) → conditions ≤ 256 → IsReader statement_text (MayStand conditions s) (read_statement conditions s)
unfolding read_statement
reads_statement conditions s low = record { takes = take; again = again }
  where
    literal : (fault : ReadError) → IsReader counted (IsString 1 (4096 - s.literal)) (read_literal (4096 - s.literal) fault)
    literal fault = reads_literal (4096 - s.literal) fault (omega arith)

    named : IsReader byte (λ n. n < conditions) (only_if (below conditions) read_byte)
    named = reads_byte_below conditions low

    status : IsReader byte (λ n. n < 64) (only_if (below 64) read_byte)
    status = reads_byte_below 64 (omega arith)

    take : (bytes : List ℕ) (x : Statement) (rest : List ℕ) → IsText bytes → (read_byte bytes >>= λ k. cond (bars s k.0) (Err (bad bytes)) (arguments conditions s (bad bytes) k.0 k.1)) ≡ Ok (x, rest) → (bytes ≡ statement_text x ++ rest) × (IsText rest × MayStand conditions s x)
    take [] x rest fits e = refused (x, rest) e
    take (k ∷ bytes) x rest fits e =
        let u = unbarred (bars s k) (bad (k ∷ bytes)) (arguments conditions s (bad (k ∷ bytes)) k bytes) x rest e in
        elim (chosen (k == 0) _ _ _ u.1) [
          | inl p ↦ taken statement_text (MayStand conditions s) Echo k 0 p.0 refl tt bytes x rest fits.1 p.1
          | inr q ↦ elim (chosen (k == 1) _ _ _ q.1) [
            | inl p ↦ taken_as Print statement_text (MayStand conditions s) counted (IsString 1 (4096 - s.literal)) _ (literal (bad (k ∷ bytes))) k 1 p.0 (λ b l. refl) (λ b l. (free s k 1 u.0 p.0, l)) bytes x rest fits.1 p.1
            | inr q ↦ elim (chosen (k == 2) _ _ _ q.1) [
              | inl p ↦ taken_as Begin statement_text (MayStand conditions s) byte (λ n. n < conditions) _ named k 2 p.0 (λ b l. refl) (λ b l. l) bytes x rest fits.1 p.1
              | inr q ↦ elim (chosen (k == 3) _ _ _ q.1) [
                | inl p ↦ taken statement_text (MayStand conditions s) More k 3 p.0 refl (free s k 3 u.0 p.0) bytes x rest fits.1 p.1
                | inr q ↦ elim (chosen (k == 4) _ _ _ q.1) [
                  | inl p ↦ let f = or_is s.less s.more (free s k 4 u.0 p.0) in taken_as Less statement_text (MayStand conditions s) (to_be_bytes w16) (λ n. (1 ≤ n) × (n < 65536)) _ reads_positive k 4 p.0 (λ b l. refl) (λ b l. (f.0, (f.1, l))) bytes x rest fits.1 p.1
                  | inr q ↦ elim (chosen (k == 5) _ _ _ q.1) [
                    | inl p ↦ let f = or_is (s.less || s.more) (nat_lt 1 s.left) (free s k 5 u.0 p.0) in taken statement_text (MayStand conditions s) Reject k 5 p.0 refl (or_is s.less s.more f.0, not_lt 1 s.left f.1) bytes x rest fits.1 p.1
                    | inr q ↦ elim (chosen (k == 6) _ _ _ q.1) [
                      | inl p ↦ let last = not_lt 1 s.left (free s k 6 u.0 p.0) in taken_as End statement_text (MayStand conditions s) byte (λ n. n < 64) _ status k 6 p.0 (λ b l. refl) (λ b l. (last, l)) bytes x rest fits.1 p.1
                      | inr q ↦ elim (chosen (k == 7) _ _ _ q.1) [
                        | inl p ↦ taken_as Push statement_text (MayStand conditions s) byte (λ n. n < conditions) _ named k 7 p.0 (λ b l. refl) (λ b l. (on s.stack (free s k 7 u.0 p.0), l)) bytes x rest fits.1 p.1
                        | inr q ↦ elim (chosen (k == 8) _ _ _ q.1) [
                          | inl p ↦ taken statement_text (MayStand conditions s) Pop k 8 p.0 refl (on s.stack (free s k 8 u.0 p.0)) bytes x rest fits.1 p.1
                          | inr q ↦ refused (x, rest) q.1
                        ]
                      ]
                    ]
                  ]
                ]
              ]
            ]
          ]
        ]

    again : (x : Statement) (rest : List ℕ) → MayStand conditions s x → (read_byte (statement_text x ++ rest) >>= λ k. cond (bars s k.0) (Err (bad (statement_text x ++ rest))) (arguments conditions s (bad (statement_text x ++ rest)) k.0 k.1)) ≡ Ok (x, rest)
    again Echo rest h = refl
    again (Print b) rest h = rw h.0 (ap (λ (o : Result (List ℕ × List ℕ) ReadError). o >>= λ y. Ok (Print y.0, y.1)) ((literal (bad (statement_text (Print b) ++ rest))).again b rest h.1))
    again (Begin c) rest h = ap (λ (o : Result (ℕ × List ℕ) ReadError). o >>= λ y. Ok (Begin y.0, y.1)) (named.again c rest h)
    again More rest h = rw h refl
    again (Less n) rest h = rw (is_or s.less s.more h.0 h.1.0) (ap (λ (o : Result (ℕ × List ℕ) ReadError). o >>= λ y. Ok (Less y.0, y.1)) (reads_positive.again n rest h.1.1))
    again Reject rest h = rw (is_or (s.less || s.more) (nat_lt 1 s.left) (is_or s.less s.more h.0.0 h.0.1) (is_not_lt 1 s.left h.1)) refl
    again (End c) rest h = rw (is_not_lt 1 s.left h.0) (ap (λ (o : Result (ℕ × List ℕ) ReadError). o >>= λ y. Ok (End y.0, y.1)) (status.again c rest h.1))
    again (Push c) rest h = rw h.0 (ap (λ (o : Result (ℕ × List ℕ) ReadError). o >>= λ y. Ok (Push y.0, y.1)) (named.again c rest h.1))
    again Pop rest h = rw h refl

-- ---- rules

-- a rule that the version has
abbrev pub IsRuleBy : Sizes → Bool → ℕ → RuleOfTable → Type 0
IsRuleBy z stack i r = IsTableRule z.conditions i r × InVersion stack r.statements

pub reads_rule : (z : Sizes) (stack : Bool) (i : ℕ) → z.conditions ≤ 256 → IsReader rule_text (IsRuleBy z stack i) (read_rule z.conditions stack)
unfolding read_rule
reads_rule z stack i low = reads_like rule_text (λ r. LowCut r.cut × (IsAction z.conditions r.statements × InVersion stack r.statements)) (IsRuleBy z stack i) _
    (reads_as
    (λ (p : Cut × List Statement). cut_text p.0 ++ (to_be_bytes w32 (length p.1) ++ flat_map statement_text p.1))
    (λ p. LowCut p.0 × (IsAction z.conditions p.1 × InVersion stack p.1))
    _ rule_from (λ r. (r.cut, r.statements))
    (reads_both cut_text LowCut read_cut (λ c statements. to_be_bytes w32 (length statements) ++ flat_map statement_text statements) (λ c ss. IsAction z.conditions ss × InVersion stack ss) (λ c. read_statements z.conditions stack) reads_cut (λ c l. actions))
    (λ r. refl) (λ p l. refl))
    (λ r l. (record { cut = cut_is r.cut l.0; few = l.1.0.few; literals = l.1.0.literals; legal = l.1.0.legal; bytes = l.1.0.bytes }, l.1.1))
    (λ r l. (is_cut r.cut l.0.cut, (record { few = l.0.few; literals = l.0.literals; legal = l.0.legal; bytes = l.0.bytes }, l.1)))
  where
    actions : IsReader (λ (statements : List Statement). to_be_bytes w32 (length statements) ++ flat_map statement_text statements) (λ ss. IsAction z.conditions ss × InVersion stack ss) (read_statements z.conditions stack)
    actions = reads_like (λ (xs : List Statement). to_be_bytes w32 (length xs) ++ flat_map statement_text xs) (λ xs. ((0 ≤ length xs) × (length xs ≤ 256)) × ((length xs ≡ length xs) × EachFrom (MayStand z.conditions) seen_after (unseen stack (length xs)) xs)) (λ ss. IsAction z.conditions ss × InVersion stack ss) (read_statements z.conditions stack)
        (reads_as (counted_text statement_text) (λ p. ((0 ≤ p.0) × (p.0 ≤ 256)) × ((length p.1 ≡ p.0) × EachFrom (MayStand z.conditions) seen_after (unseen stack p.0) p.1)) _ (λ p. p.1) (λ xs. (length xs, xs))
        (reads_both (to_be_bytes w32) (λ n. (0 ≤ n) × (n ≤ 256)) (read_long 0 256) (λ n. flat_map statement_text) (λ n xs. (length xs ≡ n) × EachFrom (MayStand z.conditions) seen_after (unseen stack n) xs) (λ n. many (read_statement z.conditions) seen_after n (unseen stack n))
        (reads_within 0 256 (omega arith)) (λ n l. reads_many statement_text (MayStand z.conditions) (read_statement z.conditions) seen_after (λ s. reads_statement z.conditions s low) n (unseen stack n)))
        (λ xs. refl) (λ p l. ap (λ (n : ℕ). (n, p.1)) l.1.0))
        (λ xs l. action_is z.conditions stack xs l.0.1 l.1.1) (λ xs l. ((omega arith, l.0.few), (refl, is_action z.conditions stack xs l.0 l.1)))

-- ---- states

not_zero : (s : ℕ) → (suc s == 0) ≡ false
not_zero s = grind (arith, nat_tests)

zero_is : (s n : ℕ) → none_at_0 s n ≡ true → s ≡ 0 → n ≡ 0
zero_is zero n h e = grind (arith, nat_tests)
zero_is (suc s) n h e = absurd (omega arith)

is_zero : (s n : ℕ) → (s ≡ 0 → n ≡ 0) → none_at_0 s n ≡ true
is_zero zero n h = let e = h refl in grind (arith, nat_tests)
is_zero (suc s) n h = rw (not_zero s) refl

few_is : (rejects : Bool) (s n : ℕ) → few rejects s n ≡ true → (rejects ≡ false → n ≤ 1) × (s ≡ 0 → n ≡ 0)
few_is true s n h = ((λ e. absurd cc), zero_is s n (and_is true (none_at_0 s n) h).1)
few_is false s n h = let p = and_is (nat_le n 1) (none_at_0 s n) h in ((λ e. le_is n 1 p.0), zero_is s n p.1)

is_few : (rejects : Bool) (s n : ℕ) → (rejects ≡ false → n ≤ 1) → (s ≡ 0 → n ≡ 0) → few rejects s n ≡ true
is_few true s n h k = is_zero s n k
is_few false s n h k = is_and (nat_le n 1) (none_at_0 s n) (is_le n 1 (h refl)) (is_zero s n k)

-- rules from low on, ascending, below the count
abbrev Climb : ℕ → ℕ → List ℕ → Type 0
Climb count low rules = EachFrom (λ low r. (low ≤ r) × (r < count)) (λ low r. r + 1) low rules

climb_low : (count low : ℕ) (rules : List ℕ) → Climb count low rules → (i : ℕ) → Among rules i → (low ≤ i) × (i < count)
climb_low count low [] c i a = elim a [ ]
climb_low count low (r ∷ rules) c i (inl e) = subst (λ (k : ℕ). (low ≤ k) × (k < count)) (sym e) c.0
climb_low count low (r ∷ rules) c i (inr a) = let p = climb_low count (r + 1) rules c.1 i a in let first = c.0.0 in let next = p.0 in (omega arith, p.1)

climb_ascends : (count low : ℕ) (rules : List ℕ) → Climb count low rules → Ascending rules
climb_ascends count low [] c = tt
climb_ascends count low (r ∷ rules) c = ((λ j a. let p = (climb_low count (r + 1) rules c.1 j a).0 in omega arith), climb_ascends count (r + 1) rules c.1)

ascent_climbs : (count low : ℕ) (rules : List ℕ) → ((i : ℕ) → Among rules i → low ≤ i) → ((i : ℕ) → Among rules i → i < count) → Ascending rules → Climb count low rules
ascent_climbs count low [] l b a = tt
ascent_climbs count low (r ∷ rules) l b a =
    ((l r (inl refl), b r (inl refl)), ascent_climbs count (r + 1) rules (λ i m. let lt = a.0 i m in omega arith) (λ i m. b i (inr m)) a.1)

-- a list that climbs below a bound is no longer than the bound
short_climb : (count low : ℕ) (xs : List ℕ) → Climb count low xs → (length xs ≡ 0) ⊎ (length xs + low ≤ count)
short_climb count low [] a = inl refl
short_climb count low (x ∷ xs) a = elim (short_climb count (x + 1) xs a.1) [
  | inl e ↦ inr (let b = a.0 in omega arith)
  | inr le ↦ inr (let b = a.0 in omega arith)
]

pub few_ascend : (count : ℕ) (xs : List ℕ) → ((i : ℕ) → Among xs i → i < count) → Ascending xs → length xs ≤ count
few_ascend count xs b a = elim (short_climb count 0 xs (ascent_climbs count 0 xs (λ i m. omega arith) b a)) [ inl e ↦ omega arith | inr le ↦ omega arith ]

abbrev RowParts : Type 0
RowParts = ℕ × (ℕ × List ℕ)

abbrev AreAccepted : Sizes → Bool → ℕ → List ℕ → Type 0
AreAccepted z rejects s rules = ((rejects ≡ false → length rules ≤ 1) × (s ≡ 0 → length rules ≡ 0)) × Climb z.rules 0 rules

abbrev AreRowParts : Sizes → Bool → ℕ → RowParts → Type 0
AreRowParts z rejects s p = ((p.0 < z.states) × (s ≡ 0 → p.0 ≡ 0)) × (((p.1.0 + z.classes ≤ z.slots) × (s ≡ 0 → p.1.0 ≡ 0)) × AreAccepted z rejects s p.1.1)

row_is : (z : Sizes) (rejects : Bool) (s : ℕ) (r : Row) → AreRowParts z rejects s (r.default_target, (r.base, r.rules)) → IsRow z.rules z.states z.classes z.slots rejects s r
row_is z rejects s r l = record {
  default_target = l.0.0;
  base = l.1.0.0;
  rules = λ i a. (climb_low z.rules 0 r.rules l.1.1.1 i a).1;
  ascending = climb_ascends z.rules 0 r.rules l.1.1.1;
  first_alone = l.1.1.0.0;
  dead = λ e. (l.0.1 e, l.1.0.1 e, nil_from_length r.rules (l.1.1.0.1 e));
}

is_row : (z : Sizes) (rejects : Bool) (s : ℕ) (r : Row) → IsRow z.rules z.states z.classes z.slots rejects s r → AreRowParts z rejects s (r.default_target, (r.base, r.rules))
is_row z rejects s r l =
    ((l.default_target, λ e. (l.dead e).0), ((l.base, λ e. (l.dead e).1), ((l.first_alone, λ e. ap length (l.dead e).2), ascent_climbs z.rules 0 r.rules (λ i a. omega arith) l.rules l.ascending)))

-- where some rule has REJECT, the number of rules of a row is bounded by four bytes alone
pub reads_row : (z : Sizes) (rejects : Bool) (s : ℕ) → z.states < 4294967296 → z.slots < 4294967296 → z.rules < 4294967296 → IsReader row_text (IsRow z.rules z.states z.classes z.slots rejects s) (read_row z rejects s)
unfolding read_row
reads_row z rejects s h k g = reads_like row_text (λ r. AreRowParts z rejects s (r.default_target, (r.base, r.rules))) (IsRow z.rules z.states z.classes z.slots rejects s) _
    (reads_as
    (λ (p : RowParts). to_be_bytes w32 p.0 ++ (to_be_bytes w32 p.1.0 ++ (to_be_bytes w32 (length p.1.1) ++ flat_map (to_be_bytes w32) p.1.1)))
    (AreRowParts z rejects s)
    _ row_from (λ r. (r.default_target, (r.base, r.rules)))
    (reads_both (to_be_bytes w32) (λ n. (n < z.states) × (s ≡ 0 → n ≡ 0)) _ (λ n (p : ℕ × List ℕ). to_be_bytes w32 p.0 ++ (to_be_bytes w32 (length p.1) ++ flat_map (to_be_bytes w32) p.1))
    (λ n p. ((p.0 + z.classes ≤ z.slots) × (s ≡ 0 → p.0 ≡ 0)) × AreAccepted z rejects s p.1) _
    (reads_if (to_be_bytes w32) (λ n. n < 4294967296) (λ n. (n < z.states) × (s ≡ 0 → n ≡ 0)) (λ n. nat_lt n z.states && none_at_0 s n) (read_number w32) reads_long
    (λ n l e. let p = and_is (nat_lt n z.states) (none_at_0 s n) e in (lt_is n z.states p.0, zero_is s n p.1))
    (λ n l. (is_and (nat_lt n z.states) (none_at_0 s n) (is_lt n z.states l.0) (is_zero s n l.1), let lt = l.0 in omega arith)))
    (λ n l.
    reads_both (to_be_bytes w32) (λ n. (n + z.classes ≤ z.slots) × (s ≡ 0 → n ≡ 0)) _ (λ n rules. to_be_bytes w32 (length rules) ++ flat_map (to_be_bytes w32) rules)
    (λ n rules. AreAccepted z rejects s rules) _
    (reads_if (to_be_bytes w32) (λ n. n < 4294967296) (λ n. (n + z.classes ≤ z.slots) × (s ≡ 0 → n ≡ 0)) (λ n. nat_le (n + z.classes) z.slots && none_at_0 s n) (read_number w32) reads_long
    (λ n l e. let p = and_is (nat_le (n + z.classes) z.slots) (none_at_0 s n) e in (le_is (n + z.classes) z.slots p.0, zero_is s n p.1))
    (λ n l. (is_and (nat_le (n + z.classes) z.slots) (none_at_0 s n) (is_le (n + z.classes) z.slots l.0) (is_zero s n l.1), let lt = l.0 in omega arith)))
    (λ n l. accepted)))
    (λ r. refl) (λ p l. refl))
    (row_is z rejects s) (is_row z rejects s)
  where
    one : (low : ℕ) → IsReader (to_be_bytes w32) (λ r. (low ≤ r) × (r < z.rules)) (read_accepted z.rules low)
    one low = reads_if (to_be_bytes w32) (λ n. n < 4294967296) (λ r. (low ≤ r) × (r < z.rules)) (between low z.rules) (read_number w32) reads_long
        (λ n l e. let p = and_is (nat_le low n) (nat_lt n z.rules) e in (le_is low n p.0, lt_is n z.rules p.1))
        (λ n l. (is_and (nat_le low n) (nat_lt n z.rules) (is_le low n l.0) (is_lt n z.rules l.1), let lt = l.1 in omega arith))

    accepted : IsReader (λ (rules : List ℕ). to_be_bytes w32 (length rules) ++ flat_map (to_be_bytes w32) rules) (AreAccepted z rejects s)
        (seen_as (λ p. p.1) (paired (only_if (few rejects s) (read_number w32)) (λ n. many (read_accepted z.rules) above n 0)))
    accepted = reads_like (λ (xs : List ℕ). to_be_bytes w32 (length xs) ++ flat_map (to_be_bytes w32) xs)
        (λ xs. ((length xs < 4294967296) × ((rejects ≡ false → length xs ≤ 1) × (s ≡ 0 → length xs ≡ 0))) × ((length xs ≡ length xs) × Climb z.rules 0 xs))
        (AreAccepted z rejects s) _
        (reads_as (counted_text (to_be_bytes w32)) (λ p. ((p.0 < 4294967296) × ((rejects ≡ false → p.0 ≤ 1) × (s ≡ 0 → p.0 ≡ 0))) × ((length p.1 ≡ p.0) × Climb z.rules 0 p.1)) _ (λ p. p.1) (λ xs. (length xs, xs))
        (reads_both (to_be_bytes w32) (λ n. (n < 4294967296) × ((rejects ≡ false → n ≤ 1) × (s ≡ 0 → n ≡ 0))) (only_if (few rejects s) (read_number w32)) (λ n. flat_map (to_be_bytes w32)) (λ n xs. (length xs ≡ n) × Climb z.rules 0 xs) (λ n. many (read_accepted z.rules) above n 0)
        (reads_if (to_be_bytes w32) (λ n. n < 4294967296) (λ n. (n < 4294967296) × ((rejects ≡ false → n ≤ 1) × (s ≡ 0 → n ≡ 0))) (few rejects s) (read_number w32) reads_long
        (λ n l e. (l, few_is rejects s n e)) (λ n l. (is_few rejects s n l.1.0 l.1.1, l.0)))
        (λ n l. reads_many (to_be_bytes w32) (λ low r. (low ≤ r) × (r < z.rules)) (read_accepted z.rules) above one n 0))
        (λ xs. refl) (λ p l. ap (λ (n : ℕ). (n, p.1)) l.1.0))
        (λ xs l. (l.0.1, l.1.1)) (λ xs l. ((elim (short_climb z.rules 0 xs l.1) [ inl e ↦ omega arith | inr le ↦ omega arith ], l.0), (refl, l.1)))

-- ---- slots

pub record IsCheck (z : Sizes) (bases : List ℕ) (i : ℕ) (c : ℕ) : Type 0 where
  pub check : c < z.states
  pub from : 1 ≤ c → get_or bases c 0 ≤ i
  pub to : 1 ≤ c → i < get_or bases c 0 + z.classes

check_is : (z : Sizes) (bases : List ℕ) (i c : ℕ) → 1 ≤ z.states → good_check z bases i c ≡ true → IsCheck z bases i c
check_is z bases i zero some e = record { check = omega arith; from = λ h. absurd (omega arith); to = λ h. absurd (omega arith) }
check_is z bases i (suc c) some e =
    let p = and_is (nat_lt (suc c) z.states) (nat_le (get_or bases (suc c) 0) i && nat_lt i (get_or bases (suc c) 0 + z.classes)) (rw (not_zero c) at e) in
    let q = and_is (nat_le (get_or bases (suc c) 0) i) (nat_lt i (get_or bases (suc c) 0 + z.classes)) p.1 in
    record { check = lt_is (suc c) z.states p.0; from = λ h. le_is (get_or bases (suc c) 0) i q.0; to = λ h. lt_is i (get_or bases (suc c) 0 + z.classes) q.1 }

is_check : (z : Sizes) (bases : List ℕ) (i c : ℕ) → IsCheck z bases i c → good_check z bases i c ≡ true
is_check z bases i zero h = refl
is_check z bases i (suc c) h =
    let some : 1 ≤ suc c = omega arith in
    rw (not_zero c) (is_and (nat_lt (suc c) z.states) _ (is_lt (suc c) z.states h.check) (is_and (nat_le (get_or bases (suc c) 0) i) _ (is_le (get_or bases (suc c) 0) i (h.from some)) (is_lt i (get_or bases (suc c) 0 + z.classes) (h.to some))))

pub reads_slot : (z : Sizes) (bases : List ℕ) (i : ℕ) → 1 ≤ z.states → z.states < 4294967296 → IsReader slot_text (IsSlot z.states z.classes bases i) (read_slot z bases i)
unfolding read_slot
reads_slot z bases i some h = reads_like slot_text (λ s. IsCheck z bases i s.check × ((s.next < z.states) × (s.check ≡ 0 → s.next ≡ 0))) (IsSlot z.states z.classes bases i) _
    (reads_as (λ (p : ℕ × ℕ). to_be_bytes w32 p.0 ++ to_be_bytes w32 p.1) (λ p. IsCheck z bases i p.0 × ((p.1 < z.states) × (p.0 ≡ 0 → p.1 ≡ 0))) _ slot_from (λ s. (s.check, s.next))
    (reads_both (to_be_bytes w32) (IsCheck z bases i) _ (λ c. to_be_bytes w32) (λ c n. (n < z.states) × (c ≡ 0 → n ≡ 0)) _
    (reads_if (to_be_bytes w32) (λ n. n < 4294967296) (IsCheck z bases i) (good_check z bases i) (read_number w32) reads_long (λ n l e. check_is z bases i n some e) (λ n l. (is_check z bases i n l, let lt = l.check in omega arith)))
    (λ c l. reads_if (to_be_bytes w32) (λ n. n < 4294967296) (λ n. (n < z.states) × (c ≡ 0 → n ≡ 0)) (λ n. nat_lt n z.states && none_at_0 c n) (read_number w32) reads_long
    (λ n l e. let p = and_is (nat_lt n z.states) (none_at_0 c n) e in (lt_is n z.states p.0, zero_is c n p.1))
    (λ n l. (is_and (nat_lt n z.states) (none_at_0 c n) (is_lt n z.states l.0) (is_zero c n l.1), let lt = l.0 in omega arith))))
    (λ s. refl) (λ p l. refl))
    (λ s l. record { next = l.1.0; check = l.0.check; unused = l.1.1; from = l.0.from; to = l.0.to })
    (λ s l. (record { check = l.check; from = l.from; to = l.to }, (l.next, l.unused)))
