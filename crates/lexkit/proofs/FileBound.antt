-- How long the file of a table is at most.
use Rattle.std.proofs.Common.{◌≡◌, ℕ, suc, ◌+◌, ◌*◌, ◌-◌, ◌<◌, ◌≤◌, List, [], ◌∷◌, ◌++◌, length, flat_map, sum_by, inl, inr, refl, arith, length-append, Result, Ok, Err, Option, Some, None, unwrap_or, IfSome, IfNone}
use Rattle.std.proofs.lemmas.List.Sums.{sum_by-cons}
use Rattle.lex_semantics.specs.Text.{Among, Ascending}
use Rattle.lex_semantics.specs.Spec.{Statement, Echo, Print, Begin, More, Less, Reject, End, Push, Pop, Cut, Whole, Head, Trail}
use Rattle.lextab_packed.specs.Checks.{literal_bytes}
use Rattle.lex_io.specs.Sink.{Appended, fault_count}
use Rattle.lex_io.specs.declared.sink.WriteFault.{WriteFault}
use Rattle.lextab_packed.specs.Table.{ConditionOfTable, RuleOfTable, Row, Slot, Table}
use Rattle.lextab_packed.specs.Checks.{Each, Sizes, sizes_of, IsCondition, IsTableRule, IsRow, IsSlot, IsTable, some_rule_rejects, bases_of}
use Rattle.lextab_file.specs.File.{long, byte, statement_text, cut_text, condition_text, rule_text, row_text, slot_text, file_of}
use Rattle.lexkit.specs.Counting.{Counts}

-- k for each element
abbrev copies : {A : Type 0} → ℕ → List A → ℕ
copies k [] = 0
copies k (x ∷ xs) = k + copies k xs

flat_within : {A : Type 0} (P : ℕ → A → Type 0) (f : A → List ℕ) (k : ℕ) → ((i : ℕ) (x : A) → P i x → length (f x) ≤ k) → (i : ℕ) (xs : List A) → Each P i xs → length (flat_map f xs) ≤ copies k xs
flat_within P f k each i [] t = omega arith
flat_within P f k each i (x ∷ xs) t =
    let first = each i x t.0 in
    let rest = flat_within P f k each (suc i) xs t.1 in
    let l : length (flat_map f (x ∷ xs)) ≡ length (f x) + length (flat_map f xs) = length-append (f x) (flat_map f xs) in
    omega (arith, first, rest, l)

of_conditions : (xs : List ConditionOfTable) → copies 4109 xs ≡ 4109 * length xs
of_conditions [] = refl
of_conditions (x ∷ xs) = let h = of_conditions xs in omega (arith, h)

of_rules : (xs : List RuleOfTable) → copies 5385 xs ≡ 5385 * length xs
of_rules [] = refl
of_rules (x ∷ xs) = let h = of_rules xs in omega (arith, h)

of_rows : (xs : List Row) → copies 16396 xs ≡ 16396 * length xs
of_rows [] = refl
of_rows (x ∷ xs) = let h = of_rows xs in omega (arith, h)

of_slots : (xs : List Slot) → copies 8 xs ≡ 8 * length xs
of_slots [] = refl
of_slots (x ∷ xs) = let h = of_slots xs in omega (arith, h)

bytes_alone : (xs : List ℕ) → length (flat_map byte xs) ≡ length xs
bytes_alone [] = refl
bytes_alone (x ∷ xs) = let h = bytes_alone xs in omega (arith, h)

longs : (xs : List ℕ) → length (flat_map long xs) ≡ 4 * length xs
longs [] = refl
longs (x ∷ xs) = let h = longs xs in omega (arith, h)

of_statement : (s : Statement) → length (statement_text s) ≤ 5 + literal_bytes s
of_statement Echo = omega arith
of_statement (Print bytes) = omega arith
of_statement (Begin c) = omega arith
of_statement More = omega arith
of_statement (Less n) = omega arith
of_statement Reject = omega arith
of_statement (End n) = omega arith
of_statement (Push c) = omega arith
of_statement Pop = omega arith

of_statements : (ss : List Statement) → length (flat_map statement_text ss) ≤ 5 * length ss + sum_by literal_bytes ss
of_statements [] = omega arith
of_statements (s ∷ ss) =
    let first = of_statement s in
    let rest = of_statements ss in
    let l : length (flat_map statement_text (s ∷ ss)) ≡ length (statement_text s) + length (flat_map statement_text ss) = length-append (statement_text s) (flat_map statement_text ss) in
    let q : sum_by literal_bytes (s ∷ ss) ≡ literal_bytes s + sum_by literal_bytes ss = sum_by-cons literal_bytes s ss in
    omega (arith, first, rest, l, q)

-- numbers that ascend from low and stay below n
ascend : (n low : ℕ) (l : List ℕ) → Ascending l → ((j : ℕ) → Among l j → low ≤ j) → ((j : ℕ) → Among l j → j < n) → length l ≤ n - low
ascend n low [] up from to = omega arith
ascend n low (i ∷ is) up from to =
    let rest = ascend n (suc i) is up.1 (λ j a. up.0 j a) (λ j a. to j (inr a)) in
    let first = from i (inl refl) in
    let last = to i (inl refl) in
    omega (arith, rest, first, last)

of_cut : (c : Cut) → length (cut_text c) ≡ 5
of_cut Whole = refl
of_cut (Head n) = refl
of_cut (Trail n) = refl

condition_short : (z : Sizes) (i : ℕ) (c : ConditionOfTable) → IsCondition z.states i c → length (condition_text c) ≤ 4109
condition_short z i c h =
    let p = h.print in
    let l = length-append c.end.print (byte c.end.status) in
    omega (arith, p, l)

rule_short : (z : Sizes) (i : ℕ) (r : RuleOfTable) → IsTableRule z.conditions i r → length (rule_text r) ≤ 5385
rule_short z i r h =
    let few = h.few in
    let literals = h.literals in
    let body = of_statements r.statements in
    let cut = of_cut r.cut in
    let l = length-append (cut_text r.cut) (long (length r.statements) ++ flat_map statement_text r.statements) in
    omega (arith, few, literals, body, cut, l)

module _ (t : Table) (ok : IsTable t) where
  row_short : (i : ℕ) (r : Row) → IsRow (sizes_of t).rules (sizes_of t).states (sizes_of t).classes (sizes_of t).slots (some_rule_rejects t.rules) i r → length (row_text r) ≤ 16396
  row_short i r h =
      let few = ok.sizes.few_rules in
      let many = ascend (length t.rules) 0 r.rules h.ascending (λ j a. omega arith) h.rules in
      let all = longs r.rules in
      omega (arith, few, many, all)

  pub file_short : length (file_of t) < 4294967296
  file_short =
      let conditions = flat_within (IsCondition (sizes_of t).states) condition_text 4109 (condition_short (sizes_of t)) 0 t.conditions ok.conditions in
      let rules = flat_within (IsTableRule (sizes_of t).conditions) rule_text 5385 (rule_short (sizes_of t)) 0 t.rules ok.rules in
      let rows = flat_within (IsRow (sizes_of t).rules (sizes_of t).states (sizes_of t).classes (sizes_of t).slots (some_rule_rejects t.rules)) row_text 16396 row_short 0 t.rows ok.rows in
      let slots = flat_within (IsSlot (sizes_of t).states (sizes_of t).classes (bases_of t.rows)) slot_text 8 (λ i s h. omega arith) 0 t.slots ok.slots in
      let a = of_conditions t.conditions in
      let b = of_rules t.rules in
      let c = of_rows t.rows in
      let d = of_slots t.slots in
      let e = bytes_alone t.class_of in
      let n = ok.bytes in
      let z = ok.sizes in
      let z1 = z.some_conditions in
      let z2 = z.few_rules in
      let z3 = z.some_states in
      let z4 = z.some_slots in
      let l4 = length-append (flat_map row_text t.rows) (flat_map slot_text t.slots) in
      let l3 = length-append (flat_map byte t.class_of) (flat_map row_text t.rows ++ flat_map slot_text t.slots) in
      let l2 = length-append (flat_map rule_text t.rules) (flat_map byte t.class_of ++ (flat_map row_text t.rows ++ flat_map slot_text t.slots)) in
      let l1 = length-append (flat_map condition_text t.conditions) (flat_map rule_text t.rules ++ (flat_map byte t.class_of ++ (flat_map row_text t.rows ++ flat_map slot_text t.slots))) in
      omega (arith, conditions, rules, rows, slots, a, b, c, d, e, n, z1, z2, z3, z4, l1, l2, l3, l4)

-- a count that began at 0, where no call failed
pub counted : (file : List ℕ) (n : ℕ) (r : Result (Unit {0}) WriteFault) → 0 ≡ 0 + fault_count r → Appended (λ xs. Counts 0 xs n) file r → length file < 4294967296 → n ≡ length file
counted file n (Ok v) none h low = let e = h (omega (arith, low)) in omega (arith, e)
counted file n (Err e) none h low = absurd (omega (arith, none))

-- a number that is found, unless it passes the limit
pub found_count : (o : Option ℕ) (n limit : ℕ) → IfSome o (λ m. m ≡ n) → IfNone o (limit < n) → n ≤ limit → unwrap_or o 0 ≡ n
found_count (Some m) n limit found none few = found
found_count None n limit found none few = absurd (omega (arith, none, few))
