-- Each table has one file, and each file at most one table.
use Rattle.std.proofs.Common.{◌≡◌, ℕ, suc, ◌<◌, ◌≤◌, Bool, true, false, ◌⊎◌, inl, inr, List, [], ◌∷◌, ◌++◌, length, Some, None, Result, Ok, Err, refl, sym, ap, subst, ◌∙◌, arith}
use Rattle.std.specs.Prelude.{◌==◌, ◌||◌, if◌then◌else◌}
use Rattle.std.specs.Int.{w16, w32, to_be_bytes}
use Rattle.std.specs.List.{flat_map}
use Rattle.std.proofs.lemmas.Bool.Decides.{nat_tests}
use Rattle.std.proofs.lemmas.Option.{same_Some}
use Rattle.std.proofs.lemmas.List.{append-nil, nil_from_length}
use Rattle.lex_semantics.specs.Text.{IsText}
use Rattle.lextab_packed.specs.Table.{RuleOfTable, Row, Slot, Table}
use Rattle.lextab_packed.specs.Checks.{Each, Sizes, sizes_of, AreSizes, IsCondition, IsTableRule, some_rule_rejects, IsRow, bases_of, IsSlot, IsTable}
use Rattle.lextab_file.specs.File.{byte, condition_text, rule_text, row_text, slot_text, sizes_text, magic, version_of, file_of, IsFileOf, has_stack, any_stack}
use Rattle.lextab_file.specs.declared.error.ReadError.{ReadError}
use Rattle.lextab_file.specs.declared.error.ReadError.TheVariants as reads
use Rattle.lextab_file.specs.declared.error.TableError.TheVariants as errors
use Rattle.lextab_file.specs.Reading.{bad, judged, paired, read_number, read_bytes, read_condition, read_rule, read_class, read_row, read_slot, is_magic, sizes_from, read_sizes, Body, read_body, read_versioned, table_from, read_table}
use Rattle.lextab_file.specs.Refusals.{is_trailing, in_file, left_over, refusal_in, read_refusal}
use Rattle.lextab_file.proofs.Forms.{IsReader, same_ok, reads_both, reads_judged, reads_as, reads_like, reads_places, reads_bytes, reads_short}
use Rattle.lextab_file.proofs.Actions.{and_is}
use Rattle.lextab_file.proofs.Fields.{reads_within, reads_byte_below, reads_condition, IsRuleBy, reads_rule, reads_row, reads_slot, tag_is}

reads_sizes : IsReader sizes_text (λ z. AreSizes z.conditions z.rules z.states z.classes z.slots) read_sizes
unfolding read_sizes
reads_sizes = reads_like sizes_text
    (λ z. ((1 ≤ z.conditions) × (z.conditions ≤ 255)) × (((0 ≤ z.rules) × (z.rules ≤ 4096)) × (((1 ≤ z.states) × (z.states ≤ 8192)) × (((1 ≤ z.classes) × (z.classes ≤ 256)) × ((z.classes ≤ z.slots) × (z.slots ≤ 2097152))))))
    (λ z. AreSizes z.conditions z.rules z.states z.classes z.slots) _
    (reads_as (λ (p : ℕ × (ℕ × (ℕ × (ℕ × ℕ)))). to_be_bytes w32 p.0 ++ (to_be_bytes w32 p.1.0 ++ (to_be_bytes w32 p.1.1.0 ++ (to_be_bytes w32 p.1.1.1.0 ++ to_be_bytes w32 p.1.1.1.1))))
    (λ p. ((1 ≤ p.0) × (p.0 ≤ 255)) × (((0 ≤ p.1.0) × (p.1.0 ≤ 4096)) × (((1 ≤ p.1.1.0) × (p.1.1.0 ≤ 8192)) × (((1 ≤ p.1.1.1.0) × (p.1.1.1.0 ≤ 256)) × ((p.1.1.1.0 ≤ p.1.1.1.1) × (p.1.1.1.1 ≤ 2097152))))))
    _ sizes_from (λ z. (z.conditions, (z.rules, (z.states, (z.classes, z.slots)))))
    (reads_both (to_be_bytes w32) (λ n. (1 ≤ n) × (n ≤ 255)) _ (λ n (p : ℕ × (ℕ × (ℕ × ℕ))). to_be_bytes w32 p.0 ++ (to_be_bytes w32 p.1.0 ++ (to_be_bytes w32 p.1.1.0 ++ to_be_bytes w32 p.1.1.1)))
    (λ n p. ((0 ≤ p.0) × (p.0 ≤ 4096)) × (((1 ≤ p.1.0) × (p.1.0 ≤ 8192)) × (((1 ≤ p.1.1.0) × (p.1.1.0 ≤ 256)) × ((p.1.1.0 ≤ p.1.1.1) × (p.1.1.1 ≤ 2097152))))) _
    (reads_within 1 255 (omega arith)) (λ n l.
    reads_both (to_be_bytes w32) (λ n. (0 ≤ n) × (n ≤ 4096)) _ (λ n (p : ℕ × (ℕ × ℕ)). to_be_bytes w32 p.0 ++ (to_be_bytes w32 p.1.0 ++ to_be_bytes w32 p.1.1))
    (λ n p. ((1 ≤ p.0) × (p.0 ≤ 8192)) × (((1 ≤ p.1.0) × (p.1.0 ≤ 256)) × ((p.1.0 ≤ p.1.1) × (p.1.1 ≤ 2097152)))) _
    (reads_within 0 4096 (omega arith)) (λ n l.
    reads_both (to_be_bytes w32) (λ n. (1 ≤ n) × (n ≤ 8192)) _ (λ n (p : ℕ × ℕ). to_be_bytes w32 p.0 ++ to_be_bytes w32 p.1)
    (λ n p. ((1 ≤ p.0) × (p.0 ≤ 256)) × ((p.0 ≤ p.1) × (p.1 ≤ 2097152))) _
    (reads_within 1 8192 (omega arith)) (λ n l.
    reads_both (to_be_bytes w32) (λ n. (1 ≤ n) × (n ≤ 256)) _ (λ n. to_be_bytes w32) (λ k n. (k ≤ n) × (n ≤ 2097152)) _
    (reads_within 1 256 (omega arith)) (λ k l. reads_within k 2097152 (omega arith))))))
    (λ z. refl) (λ p l. refl))
    (λ z l. record {
      some_conditions = l.0;
      few_rules = l.1.0.1;
      some_states = l.1.1.0;
      some_classes = l.1.1.1.0;
      some_slots = l.1.1.1.1;
    })
    (λ z l. (l.some_conditions, ((omega arith, l.few_rules), (l.some_states, (l.some_classes, l.some_slots)))))

magic_is : (xs : List ℕ) → length xs ≡ 6 → is_magic xs ≡ true → xs ≡ magic
magic_is (a ∷ b ∷ c ∷ d ∷ e ∷ f ∷ []) len h =
    let p0 = and_is (a == 76) _ h in
    let p1 = and_is (b == 69) _ p0.1 in
    let p2 = and_is (c == 88) _ p1.1 in
    let p3 = and_is (d == 84) _ p2.1 in
    let p4 = and_is (e == 65) _ p3.1 in
    rw (tag_is a 76 p0.0, tag_is b 69 p1.0, tag_is c 88 p2.0, tag_is d 84 p3.0, tag_is e 65 p4.0, tag_is f 66 p4.1) refl
magic_is [] len h = absurd (omega arith)
magic_is (a ∷ []) len h = absurd (omega arith)
magic_is (a ∷ b ∷ []) len h = absurd (omega arith)
magic_is (a ∷ b ∷ c ∷ []) len h = absurd (omega arith)
magic_is (a ∷ b ∷ c ∷ d ∷ []) len h = absurd (omega arith)
magic_is (a ∷ b ∷ c ∷ d ∷ e ∷ []) len h = absurd (omega arith)
magic_is (a ∷ b ∷ c ∷ d ∷ e ∷ f ∷ g ∷ xs) len h = absurd (omega arith)

magic_bytes : IsText magic
magic_bytes = (omega arith, (omega arith, (omega arith, (omega arith, (omega arith, (omega arith, tt))))))

reads_magic : IsReader (λ xs. xs) (λ xs. xs ≡ magic) (judged reads.BadMagic is_magic (read_bytes 6))
reads_magic = reads_judged (λ b. reads.BadMagic) (λ xs. xs) (λ xs. (length xs ≡ 6) × IsText xs) (λ xs. xs ≡ magic) is_magic (read_bytes 6) (reads_bytes 6)
    (λ xs l e. magic_is xs l.0 e) (λ xs l. (ap is_magic l, (ap length l, subst IsText (sym l) magic_bytes)))

abbrev IsVersion : ℕ → Type 0
IsVersion v = (v ≡ 1) ⊎ (v ≡ 2)

version_is : (v : ℕ) (b : Bool) → (v == 1) ≡ b → (b || v == 2) ≡ true → IsVersion v
version_is v true e h = inl (tag_is v 1 e)
version_is v false e h = inr (tag_is v 2 h)

is_version : (v : ℕ) → IsVersion v → ((v == 1 || v == 2) ≡ true) × (v < 65536)
is_version v (inl e) = (rw e refl, omega (arith, e))
is_version v (inr e) = (rw e refl, omega (arith, e))

needed : (b : Bool) → IsVersion (if b then 2 else 1)
needed true = inr refl
needed false = inl refl

reads_version : IsReader (to_be_bytes w16) IsVersion (judged reads.BadVersion (λ v. v == 1 || v == 2) (read_number w16))
reads_version = reads_judged (λ b. reads.BadVersion) (to_be_bytes w16) (λ n. n < 65536) IsVersion (λ v. v == 1 || v == 2) (read_number w16) reads_short
    (λ v l e. version_is v (v == 1) refl e) (λ v l. is_version v l)

-- rules need just the version that has their statements
none_needed : (b : Bool) (v : ℕ) → (if b then 2 else 1) ≡ v → (v == 2) ≡ false → b ≡ false
none_needed false v e h = refl
none_needed true v e h = absurd (two (ap (λ n. n == 2) e ∙ h))
  where
    two : true ≡ false → ⊥
    two p = absurd cc

no_stack : (b c : Bool) → (b || c) ≡ false → (b ≡ false) × (c ≡ false)
no_stack true c e = absurd cc
no_stack false c e = (refl, e)

each_by : (z : Sizes) (stack : Bool) (i : ℕ) (rs : List RuleOfTable) → (stack ≡ false → any_stack rs ≡ false) → Each (IsTableRule z.conditions) i rs → Each (IsRuleBy z stack) i rs
each_by z stack i [] none l = tt
each_by z stack i (r ∷ rs) none l =
    ((l.0, λ e. (no_stack (has_stack r.statements) (any_stack rs) (none e)).0), each_by z stack (suc i) rs (λ e. (no_stack (has_stack r.statements) (any_stack rs) (none e)).1) l.1)

by_each : (z : Sizes) (stack : Bool) (i : ℕ) (rs : List RuleOfTable) → Each (IsRuleBy z stack) i rs → Each (IsTableRule z.conditions) i rs
by_each z stack i [] l = tt
by_each z stack i (r ∷ rs) l = (l.0.0, by_each z stack (suc i) rs l.1)

-- ---- the parts after the sizes

abbrev body_text : Body → List ℕ
body_text p = flat_map condition_text p.0 ++ (flat_map rule_text p.1.0 ++ (flat_map byte p.1.1.0 ++ (flat_map row_text p.1.1.1.0 ++ flat_map slot_text p.1.1.1.1)))

abbrev IsBody : ℕ → Sizes → Body → Type 0
IsBody v z p =
    ((length p.0 ≡ z.conditions) × Each (IsCondition z.states) 0 p.0)
    × ((((length p.1.0 ≡ z.rules) × Each (IsTableRule z.conditions) 0 p.1.0) × (version_of p.1.0 ≡ v))
    × (((length p.1.1.0 ≡ 256) × Each (λ b k. k < z.classes) 0 p.1.1.0)
    × (((length p.1.1.1.0 ≡ z.states) × Each (IsRow z.rules z.states z.classes z.slots (some_rule_rejects p.1.0)) 0 p.1.1.1.0)
    × ((length p.1.1.1.1 ≡ z.slots) × Each (IsSlot z.states z.classes (bases_of p.1.1.1.0)) 0 p.1.1.1.1))))

reads_body : (v : ℕ) (fault : ReadError) (z : Sizes) → AreSizes z.conditions z.rules z.states z.classes z.slots → IsReader body_text (IsBody v z) (read_body v fault z)
reads_body v fault z ok =
    let rows_low : z.states < 4294967296 = let le = ok.some_states.1 in omega arith in
    let slots_low : z.slots < 4294967296 = let le = ok.some_slots.1 in omega arith in
    let rules_low : z.rules < 4294967296 = let le = ok.few_rules in omega arith in
    let classes_low : z.classes ≤ 256 = ok.some_classes.1 in
    let conditions_low : z.conditions ≤ 256 = let le = ok.some_conditions.1 in omega arith in
    reads_both (flat_map condition_text) (λ xs. (length xs ≡ z.conditions) × Each (IsCondition z.states) 0 xs) _
    (λ cs (p : List RuleOfTable × (List ℕ × (List Row × List Slot))). flat_map rule_text p.0 ++ (flat_map byte p.1.0 ++ (flat_map row_text p.1.1.0 ++ flat_map slot_text p.1.1.1)))
    (λ cs p. (((length p.0 ≡ z.rules) × Each (IsTableRule z.conditions) 0 p.0) × (version_of p.0 ≡ v)) × (((length p.1.0 ≡ 256) × Each (λ b k. k < z.classes) 0 p.1.0) × (((length p.1.1.0 ≡ z.states) × Each (IsRow z.rules z.states z.classes z.slots (some_rule_rejects p.0)) 0 p.1.1.0) × ((length p.1.1.1 ≡ z.slots) × Each (IsSlot z.states z.classes (bases_of p.1.1.0)) 0 p.1.1.1)))) _
    (reads_places condition_text (IsCondition z.states) (λ i. read_condition z.states) (λ i. reads_condition z i rows_low) z.conditions)
    (λ cs l.
    reads_both (flat_map rule_text) (λ xs. ((length xs ≡ z.rules) × Each (IsTableRule z.conditions) 0 xs) × (version_of xs ≡ v)) _
    (λ rs (p : List ℕ × (List Row × List Slot)). flat_map byte p.0 ++ (flat_map row_text p.1.0 ++ flat_map slot_text p.1.1))
    (λ rs p. ((length p.0 ≡ 256) × Each (λ b k. k < z.classes) 0 p.0) × (((length p.1.0 ≡ z.states) × Each (IsRow z.rules z.states z.classes z.slots (some_rule_rejects rs)) 0 p.1.0) × ((length p.1.1 ≡ z.slots) × Each (IsSlot z.states z.classes (bases_of p.1.0)) 0 p.1.1))) _
    (reads_judged (λ b. fault) (flat_map rule_text) (λ xs. (length xs ≡ z.rules) × Each (IsRuleBy z (v == 2)) 0 xs) (λ xs. ((length xs ≡ z.rules) × Each (IsTableRule z.conditions) 0 xs) × (version_of xs ≡ v)) (λ rs. version_of rs == v) _
    (reads_places rule_text (IsRuleBy z (v == 2)) (λ i. read_rule z.conditions (v == 2)) (λ i. reads_rule z (v == 2) i conditions_low) z.rules)
    (λ rs l e. ((l.0, by_each z (v == 2) 0 rs l.1), tag_is _ v e)) (λ rs l. (rw l.1 (same_tag v), (l.0.0, each_by z (v == 2) 0 rs (none_needed (any_stack rs) v l.1) l.0.1))))
    (λ rs l.
    reads_both (flat_map byte) (λ xs. (length xs ≡ 256) × Each (λ b k. k < z.classes) 0 xs) _
    (λ ks (p : List Row × List Slot). flat_map row_text p.0 ++ flat_map slot_text p.1)
    (λ ks p. ((length p.0 ≡ z.states) × Each (IsRow z.rules z.states z.classes z.slots (some_rule_rejects rs)) 0 p.0) × ((length p.1 ≡ z.slots) × Each (IsSlot z.states z.classes (bases_of p.0)) 0 p.1)) _
    (reads_places byte (λ b k. k < z.classes) (read_class z.classes) (λ i. reads_byte_below z.classes classes_low) 256)
    (λ ks l.
    reads_both (flat_map row_text) (λ xs. (length xs ≡ z.states) × Each (IsRow z.rules z.states z.classes z.slots (some_rule_rejects rs)) 0 xs) _
    (λ rows. flat_map slot_text) (λ rows xs. (length xs ≡ z.slots) × Each (IsSlot z.states z.classes (bases_of rows)) 0 xs) _
    (reads_places row_text (IsRow z.rules z.states z.classes z.slots (some_rule_rejects rs)) (read_row z (some_rule_rejects rs)) (λ i. reads_row z (some_rule_rejects rs) i rows_low slots_low rules_low) z.states)
    (λ rows l. reads_places slot_text (IsSlot z.states z.classes (bases_of rows)) (read_slot z (bases_of rows)) (λ i. reads_slot z (bases_of rows) i ok.some_states.0 rows_low) z.slots))))
  where
    same_tag : (v : ℕ) → (v == v) ≡ true
    same_tag v = grind (arith, nat_tests)

-- ---- the whole

sizes_same : (z : Sizes) (c r n e : ℕ) → c ≡ z.conditions → r ≡ z.rules → n ≡ z.states → e ≡ z.slots → ◌≡◌ {A = Sizes} (record { conditions = c; rules = r; states = n; classes = z.classes; slots = e }) z
sizes_same z c r n e h k l m = rw (h, k, l, m) refl

abbrev Versioned : Type 0
Versioned = ℕ × (Sizes × Body)

abbrev versioned_text : Versioned → List ℕ
versioned_text p = to_be_bytes w16 p.0 ++ (sizes_text p.1.0 ++ body_text p.1.1)

abbrev IsVersioned : Versioned → Type 0
IsVersioned p = IsVersion p.0 × (AreSizes p.1.0.conditions p.1.0.rules p.1.0.states p.1.0.classes p.1.0.slots × IsBody p.0 p.1.0 p.1.1)

reads_versioned : IsReader versioned_text IsVersioned read_versioned
reads_versioned = record {
  takes = λ bytes x rest fits e. (told (bad bytes)).takes bytes x rest fits e;
  again = λ x rest h. (told (bad (versioned_text x ++ rest))).again x rest h;
}
  where
    told : (fault : ReadError) → IsReader versioned_text IsVersioned (paired (judged reads.BadVersion (λ v. v == 1 || v == 2) (read_number w16)) (λ v. paired read_sizes (λ z. read_body v fault z)))
    told fault = reads_both (to_be_bytes w16) IsVersion _ (λ v (p : Sizes × Body). sizes_text p.0 ++ body_text p.1) (λ v p. AreSizes p.0.conditions p.0.rules p.0.states p.0.classes p.0.slots × IsBody v p.0 p.1) _
        reads_version (λ v l.
        reads_both sizes_text (λ z. AreSizes z.conditions z.rules z.states z.classes z.slots) read_sizes (λ z. body_text) (λ z. IsBody v z) (λ z. read_body v fault z)
        reads_sizes (λ z l. reads_body v fault z l))

abbrev Parts : Type 0
Parts = List ℕ × Versioned

abbrev parts_of : Table → Parts
parts_of t = (magic, (version_of t.rules, (sizes_of t, (t.conditions, (t.rules, (t.class_of, (t.rows, t.slots)))))))

abbrev IsParts : Parts → Type 0
IsParts p = (p.0 ≡ magic) × IsVersioned p.1

parts_back : (p : Parts) → IsParts p → parts_of (table_from p) ≡ p
parts_back p l =
    let b = l.1.1.1 in
    let sizes : sizes_of (table_from p) ≡ p.1.1.0 = sizes_same p.1.1.0 _ _ _ _ b.0.0 b.1.0.0.0 b.1.1.1.0.0 b.1.1.1.1.0 in
    ap (λ (m : List ℕ). (m, (version_of p.1.1.1.1.0, (sizes_of (table_from p), p.1.1.1)))) (sym l.0)
    ∙ ap (λ (v : ℕ). (p.0, (v, (sizes_of (table_from p), p.1.1.1)))) b.1.0.1
    ∙ ap (λ (z : Sizes). (p.0, (p.1.0, (z, p.1.1.1)))) sizes

pub reads_table : IsReader file_of IsTable read_table
unfolding read_table
reads_table = reads_like file_of (λ t. IsParts (parts_of t)) IsTable _
    (reads_as (λ (p : Parts). p.0 ++ versioned_text p.1) IsParts _ table_from parts_of
    (reads_both (λ xs. xs) (λ xs. xs ≡ magic) _ (λ m. versioned_text) (λ m. IsVersioned) _ reads_magic (λ m l. reads_versioned))
    (λ t. refl) parts_back)
    (λ t l. let b = l.1.1.1 in record { sizes = l.1.1.0; conditions = b.0.1; rules = b.1.0.0.1; bytes = b.1.1.0.0; class_of = b.1.1.0.1; rows = b.1.1.1.0.1; slots = b.1.1.1.1.1 })
    (λ t l. (refl, (needed (any_stack t.rules), (l.sizes, ((refl, l.conditions), (((refl, l.rules), refl), ((l.bytes, l.class_of), ((refl, l.rows), (refl, l.slots)))))))))

-- the front of the bytes is a table file
pub front_again : (t : Table) (rest : List ℕ) → IsTable t → read_table (file_of t ++ rest) ≡ Ok (t, rest)
front_again t rest h = reads_table.again t rest h

pair_parts : {A B : Type 0} (a x : A) (b y : B) → ◌≡◌ {A = Result (A × B) ReadError} (Ok (a, b)) (Ok (x, y)) → (a ≡ x) × (b ≡ y)
pair_parts a x b y e = let s = same_ok (a, b) (x, y) e in (ap (λ p. p.0) s, ap (λ p. p.1) s)

-- a file with anything after it is the file of one table with one rest
pub one_table : (t u : Table) (x y : List ℕ) → IsTable t → IsTable u → file_of t ++ x ≡ file_of u ++ y → (t ≡ u) × (x ≡ y)
one_table t u x y h k e = pair_parts t u x y (sym (front_again t x h) ∙ ap read_table e ∙ front_again u y k)

pub file_taken : (bytes : List ℕ) (t : Table) (rest : List ℕ) → IsText bytes → read_table bytes ≡ Ok (t, rest) → length rest ≡ 0 → IsFileOf t bytes
file_taken bytes t rest fits e none =
    let u = reads_table.takes bytes t rest fits e in
    (u.1.1, u.0 ∙ ap (λ (r : List ℕ). file_of t ++ r) (nil_from_length rest none) ∙ append-nil (file_of t))

file_read : (bytes : List ℕ) (t : Table) → IsFileOf t bytes → read_table bytes ≡ Ok (t, [])
file_read bytes t f = ap read_table (f.1 ∙ sym (append-nil (file_of t))) ∙ reads_table.again t [] f.0

pub no_file : (bytes : List ℕ) (d : ReadError) → read_table bytes ≡ Err d → (t : Table) → IsFileOf t bytes → ⊥
no_file bytes d e t f = let g = file_read bytes t f in absurd cc

pub no_file_more : (bytes : List ℕ) (u : Table) (rest : List ℕ) → read_table bytes ≡ Ok (u, rest) → 0 < length rest → (t : Table) → IsFileOf t bytes → ⊥
no_file_more bytes u rest e more t f = let p = pair_parts t u [] rest (sym (file_read bytes t f) ∙ e) in let l = ap length p.1 in omega (arith, l)

pub front_taken : (bytes : List ℕ) (u : Table) (rest : List ℕ) → IsText bytes → read_table bytes ≡ Ok (u, rest) → 0 < length rest → (t : Table) × (rest : List ℕ) × IsTable t × (bytes ≡ file_of t ++ rest) × (0 < length rest)
front_taken bytes u rest fits e more = let v = reads_table.takes bytes u rest fits e in (u, rest, v.1.1, v.0, more)

-- ---- refusals

-- a fault of a field is told as it is in the file
pub fault_told : (bytes : List ℕ) (d : ReadError) → read_table bytes ≡ Err d → read_refusal bytes ≡ Some (in_file (length bytes) d)
fault_told bytes d e = ap (refusal_in (length bytes)) e

-- so are bytes after a table
pub more_told : (bytes : List ℕ) (u : Table) (rest : List ℕ) → read_table bytes ≡ Ok (u, rest) → 0 < length rest → read_refusal bytes ≡ Some errors.TrailingBytes
more_told bytes u rest e more = ap (refusal_in (length bytes)) e ∙ left rest more
  where
    left : (rest : List ℕ) → 0 < length rest → left_over rest ≡ Some errors.TrailingBytes
    left [] more = absurd (omega arith)
    left (b ∷ rest) more = refl

-- a fault of a field is none of bytes after a table
pub no_trailing : (len : ℕ) (d : ReadError) → is_trailing (in_file len d) ≡ true → ⊥
no_trailing len reads.BadMagic h = absurd cc
no_trailing len reads.BadVersion h = absurd cc
no_trailing len reads.Truncated h = absurd cc
no_trailing len (reads.BadField left) h = absurd cc
no_trailing len reads.OutOfMemory h = absurd cc

-- ---- just what is no file is refused

pub file_not_refused : (bytes : List ℕ) (t : Table) → IsFileOf t bytes → read_refusal bytes ≡ None
file_not_refused bytes t f = ap (refusal_in (length bytes)) (file_read bytes t f)

not_refused : (bytes : List ℕ) (o : Result (Table × List ℕ) ReadError) → IsText bytes → read_table bytes ≡ o → refusal_in (length bytes) o ≡ None → (t : Table) × IsFileOf t bytes
not_refused bytes (Ok x) fits e r = (x.0, file_taken bytes x.0 x.1 fits e (empty x.1 r))
  where
    empty : (rest : List ℕ) → left_over rest ≡ None → length rest ≡ 0
    empty [] r = refl
    empty (b ∷ rest) r = absurd cc
not_refused bytes (Err d) fits e r = absurd cc

pub file_if_not_refused : (bytes : List ℕ) → IsText bytes → read_refusal bytes ≡ None → (t : Table) × IsFileOf t bytes
file_if_not_refused bytes fits r = not_refused bytes (read_table bytes) fits refl r

pub trailing_told : (bytes : List ℕ) (t : Table) (rest : List ℕ) → IsTable t → bytes ≡ file_of t ++ rest → 0 < length rest → read_refusal bytes ≡ Some errors.TrailingBytes
trailing_told bytes t rest ok e more = more_told bytes t rest (ap read_table e ∙ front_again t rest ok) more

told_trailing : (bytes : List ℕ) (o : Result (Table × List ℕ) ReadError) → IsText bytes → read_table bytes ≡ o → refusal_in (length bytes) o ≡ Some errors.TrailingBytes → (t : Table) × (rest : List ℕ) × IsTable t × (bytes ≡ file_of t ++ rest) × (0 < length rest)
told_trailing bytes (Ok x) fits e r = front_taken bytes x.0 x.1 fits e (some x.1 r)
  where
    some : (rest : List ℕ) → left_over rest ≡ Some errors.TrailingBytes → 0 < length rest
    some [] r = absurd cc
    some (b ∷ rest) r = omega arith
told_trailing bytes (Err d) fits e r = absurd (no_trailing (length bytes) d (ap is_trailing (same_Some _ _ r)))

pub front_if_trailing : (bytes : List ℕ) → IsText bytes → read_refusal bytes ≡ Some errors.TrailingBytes → (t : Table) × (rest : List ℕ) × IsTable t × (bytes ≡ file_of t ++ rest) × (0 < length rest)
front_if_trailing bytes fits r = told_trailing bytes (read_table bytes) fits refl r
