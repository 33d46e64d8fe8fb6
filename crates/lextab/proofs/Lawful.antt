-- The table that is assembled keeps to all that a table keeps to, and is the same machine.
use mathlib.Core.Logic.{∥∥₁_map}
use Rattle.std.proofs.Common.{◌≡◌, ℕ, ◌+◌, ◌*◌, ◌<◌, ◌≤◌, Bool, true, false, List, [], ◌∷◌, length, map, refl, sym, ap, subst, ◌∙◌, arith, inl, inr, ◌⊎◌}
use Rattle.std.specs.Prelude.{◌&&◌, nat_lt, nat_le, slice_index, slice_index_or}
use Rattle.std.proofs.lemmas.Bool.{and_parts, and_left, and_right, cases_lt, cond-true, cond-false, lt-ltb, le-ltb, leb-true}
use Rattle.std.proofs.lemmas.List.{length-map}
use Rattle.lex_semantics.specs.Text.{Among, Ascending, flag}
use Rattle.lex_semantics.specs.Spec as S
use Rattle.lex_semantics.specs.Spec.{rejects as some_reject}
use Rattle.lex_semantics.specs.Machine.{Machine, walk}
use Rattle.lex_semantics.specs.MachineLaws.{MachineLaws, LeadsToAccept}
use Rattle.lexspec.specs.Tests.{sound_conditions, sound_rules, is_sound}
use Rattle.lexauto_dfa.specs.Parts.{states, conditions, start, next, lists_in, accepts}
use Rattle.lexauto_dfa.specs.Invariant.{IsAutomaton}
use Rattle.lexauto_dfa.specs.Automata.{machine_in}
use Rattle.lexauto_dfa.specs.declared.dfa.Parts.{Parts}
use Rattle.lexauto_dfa.proofs.Machinery.{past_end}
use Rattle.lextab_packed.specs.Table as T
use Rattle.lextab_packed.specs.Checks.{Sizes, sizes_of, AreSizes, bases_of, some_rule_rejects, IsRow, IsSlot, IsTable}
use Rattle.lextab_packed.specs.Steps.{row_in, target, step_of, machine_of_table}
use Rattle.lextab_packed.proofs.Finding.{no_row, no_slot, slot_in, accepted_in}
use Rattle.lextab_packed.specs.Invariant.{GoesOn}
use Rattle.lextab_packed.proofs.Places.{each_of}
use Rattle.lextab.specs.Below.{below}
use Rattle.lextab.specs.Assembled.{start_in, action_in, assembled, HasTexts}
use Rattle.lextab.specs.Columns.{Packing, GoesAs, packing_in, packed_step}
use Rattle.lextab.proofs.Columns.{rows_len, defaults_are, bases_are, lists_are, slots_len, checks_are, nexts_are, default_at, base_at, rules_at, check_at, next_at, steps_as_packed}
use Rattle.lextab.proofs.Actions.{each_rule, each_condition, conditions_len, same_reject, same_cut, same_statements, same_ending, same_start}

slot_from : (z : Sizes) (bases : List ℕ) (i n classes : ℕ) (s : T.Slot) → z.states ≡ n → z.classes ≡ classes → 0 < n
    → ((s.check ≡ 0) × (s.next ≡ 0)) ⊎ ((1 ≤ s.check) × (s.check < n) × (slice_index bases s.check ≤ i) × (i < slice_index bases s.check + classes) × (s.next < n))
    → IsSlot z.states z.classes bases i s
slot_from z bases i n classes s e f some (inl h) =
    let none = h.0 in let zero_next = h.1 in
    record {
      next = omega (arith, zero_next, some, e);
      check = omega (arith, none, some, e);
      unused = λ q. zero_next;
      from = λ q. absurd (omega (arith, q, none));
      to = λ q. absurd (omega (arith, q, none));
    }
slot_from z bases i n classes s e f some (inr h) =
    let one = h.0 in let low = h.1 in let to_low = h.3 in let next_low = h.4 in
    record {
      next = omega (arith, next_low, e);
      check = omega (arith, low, e);
      unused = λ q. absurd (omega (arith, one, q));
      from = λ q. h.2;
      to = λ q. omega (arith, to_low, f);
    }

module _ (p : Parts) (a : IsAutomaton p) (S : S.Spec) (laws : MachineLaws (machine_in p S)) (count : conditions p ≡ length S.conditions) (sound : is_sound S ≡ true)
    (q : Packing) (goes : GoesAs (states p) (next p) q) where
  defaults_len : length q.defaults ≡ states p
  defaults_len = goes.defaults_len

  bases_len : length q.bases ≡ length q.defaults
  bases_len = goes.bases_len ∙ sym goes.defaults_len

  lists_len : length (lists_in p) ≡ length q.defaults
  lists_len = length-map p.accepts.items (λ v. v.value.items) ∙ a.lists ∙ sym goes.defaults_len

  nexts_len : length q.next ≡ length q.check
  nexts_len = goes.next_len

  rows_are : length (assembled p S q).rows ≡ states p
  rows_are = rows_len q.defaults q.bases (lists_in p) bases_len lists_len ∙ defaults_len

  slots_are : length (assembled p S q).slots ≡ length q.check
  slots_are = slots_len q.check q.next nexts_len

  pub has_packing : packing_in (assembled p S q) ≡ q
  has_packing = λ k. record {
    class_of = q.class_of;
    class_count = q.class_count;
    defaults = defaults_are q.defaults q.bases (lists_in p) bases_len lists_len k;
    bases = bases_are q.defaults q.bases (lists_in p) bases_len lists_len k;
    check = checks_are q.check q.next nexts_len k;
    next = nexts_are q.check q.next nexts_len k;
  }

  otherwise_is : (s : ℕ) → (row_in (assembled p S q) s).default_target ≡ slice_index q.defaults s
  otherwise_is s = sym (default_at (assembled p S q).rows s) ∙ ap (λ (l : List ℕ). slice_index l s) (defaults_are q.defaults q.bases (lists_in p) bases_len lists_len)

  base_is : (s : ℕ) → (row_in (assembled p S q) s).base ≡ slice_index q.bases s
  base_is s = sym (base_at (assembled p S q).rows s) ∙ ap (λ (l : List ℕ). slice_index l s) (bases_are q.defaults q.bases (lists_in p) bases_len lists_len)

  rules_are : (s : ℕ) → accepted_in (assembled p S q) s ≡ accepts p s
  rules_are s = sym (rules_at (assembled p S q).rows s) ∙ ap (λ (l : List (List ℕ)). slice_index_or l s []) (lists_are q.defaults q.bases (lists_in p) bases_len lists_len)

  check_is : (i : ℕ) → (slice_index_or (assembled p S q).slots i no_slot).check ≡ slice_index q.check i
  check_is i = sym (check_at (assembled p S q).slots i) ∙ ap (λ (l : List ℕ). slice_index l i) (checks_are q.check q.next nexts_len)

  next_is : (i : ℕ) → (slice_index_or (assembled p S q).slots i no_slot).next ≡ slice_index q.next i
  next_is i = sym (next_at (assembled p S q).slots i) ∙ ap (λ (l : List ℕ). slice_index l i) (nexts_are q.check q.next nexts_len)

  -- the steps are the automaton's
  past_step : (s b : ℕ) → states p ≤ s → next p s b ≡ 0
  past_step s b h = elim (cases_lt b 256) [
    | inl k ↦ cond-true (nat_lt b 256) (slice_index p.next.items (s * 256 + b)) 0 (lt-ltb b 256 k) ∙ past_end p.next.items (s * 256 + b) 0 (let r = a.rows in omega (arith, r, h))
    | inr k ↦ cond-false (nat_lt b 256) (slice_index p.next.items (s * 256 + b)) 0 (le-ltb b 256 k)
  ]

  outside : (s b : ℕ) → (nat_lt s (length (assembled p S q).rows) && nat_lt b 256) ≡ false → step_of (assembled p S q) s b ≡ 0
  outside s b h = cond-false (nat_lt s (length (assembled p S q).rows) && nat_lt b 256) (target (row_in (assembled p S q) s) (slot_in (assembled p S q) s b) s) 0 h

  same_step : (s b : ℕ) → step_of (assembled p S q) s b ≡ next p s b
  same_step s b = elim (cases_lt s (states p)) [
    | inr h ↦ outside s b (and_left (nat_lt s (length (assembled p S q).rows)) (nat_lt b 256) (le-ltb s (length (assembled p S q).rows) (omega (arith, h, rows_are)))) ∙ sym (past_step s b h)
    | inl h ↦ elim (cases_lt b 256) [
      | inl k ↦ inside s b h k
      | inr k ↦ outside s b (and_right' s b (le-ltb b 256 k)) ∙ sym (cond-false (nat_lt b 256) (slice_index p.next.items (s * 256 + b)) 0 (le-ltb b 256 k))
    ]
  ]
    where
      inside : (s b : ℕ) → s < states p → b < 256 → step_of (assembled p S q) s b ≡ next p s b
      inside s b h k =
          steps_as_packed (assembled p S q) s b (omega (arith, h, rows_are)) k
          ∙ ap (λ (r : Packing). packed_step r s b) has_packing ∙ goes.steps s b h k

      and_right' : (s b : ℕ) → nat_lt b 256 ≡ false → (nat_lt s (length (assembled p S q).rows) && nat_lt b 256) ≡ false
      and_right' s b h = and_right (nat_lt s (length (assembled p S q).rows)) (nat_lt b 256) h

  past_start : (d : ℕ) (line_start : Bool) → length S.conditions ≤ d → start p d line_start ≡ 0
  past_start d true h = past_end p.line_starts.items d 0 (let l = a.lines in omega (arith, l, h, count))
  past_start d false h = past_end p.starts.items d 0 (omega (arith, h, count))

  -- the machine is the automaton's
  pub same_machine : machine_of_table (assembled p S q) (λ s. flag p.goes_on.items s) ≡ machine_in p S
  same_machine = λ k. record {
    conditions = conditions_len (start_in p.starts.items p.line_starts.items) 0 S.conditions k;
    count = length-map S.rules action_in k;
    start = λ c line_start. begins c line_start k;
    next = λ s b. same_step s b k;
    accepts = λ s. rules_are s k;
    goes_on = λ s. flag p.goes_on.items s;
    cut = λ i. same_cut S.rules i k;
    statements = λ i. same_statements S.rules i k;
    ending = λ c. same_ending (start_in p.starts.items p.line_starts.items) 0 S.conditions c k;
  }
    where
      begins : (c : ℕ) (line_start : Bool) → (machine_of_table (assembled p S q) (λ s. flag p.goes_on.items s)).start c line_start ≡ start p c line_start
      begins c line_start =
          same_start (start_in p.starts.items p.line_starts.items) 0 S.conditions c line_start (λ d h. past_start d line_start (omega (arith, h)))
          ∙ (let e : 0 + c ≡ c = omega arith in ap (λ (m : ℕ). start p m line_start) e)

  -- the machine of the table, whatever goes on there
  abbrev plain : Machine
  plain = machine_of_table (assembled p S q) (λ s. false)

  walk_after : (s : ℕ) (w : List ℕ) → walk (machine_in p S) s w ≡ walk plain s w
  walk_after s [] = refl
  walk_after s (b ∷ w) = ap (λ (u : ℕ). walk (machine_in p S) u w) (sym (same_step s b)) ∙ walk_after (step_of (assembled p S q) s b) w

  there : (s : ℕ) → LeadsToAccept (machine_in p S) s → LeadsToAccept plain s
  there s (u, text, some, i, among) = (u, text, some, i, subst (λ (l : List ℕ). Among l i) (ap (λ (n : ℕ). accepts p n) (walk_after s u) ∙ sym (rules_are (walk plain s u))) among)

  back : (s : ℕ) → LeadsToAccept plain s → LeadsToAccept (machine_in p S) s
  back s (u, text, some, i, among) = (u, text, some, i, subst (λ (l : List ℕ). Among l i) (rules_are (walk plain s u) ∙ ap (λ (n : ℕ). accepts p n) (sym (walk_after s u))) among)

  pub goes_on : GoesOn (assembled p S q) p.goes_on.items
  goes_on = record {
    len = sym rows_are;
    leads = λ s h. (λ g. ∥∥₁_map ((laws.goes_on s).0 g) (there s), λ l. (laws.goes_on s).1 (∥∥₁_map l (back s)));
  }

  -- and the table is one
  sizes : AreSizes (sizes_of (assembled p S q)).conditions (sizes_of (assembled p S q)).rules (sizes_of (assembled p S q)).states (sizes_of (assembled p S q)).classes (sizes_of (assembled p S q)).slots
  sizes =
      let four = and_parts (nat_le 1 (length S.conditions) && nat_le (length S.conditions) 255 && nat_le (length S.rules) 4096 && sound_conditions S.conditions) (sound_rules (length S.conditions) S.rules) sound in
      let three = and_parts (nat_le 1 (length S.conditions) && nat_le (length S.conditions) 255 && nat_le (length S.rules) 4096) (sound_conditions S.conditions) four.0 in
      let two = and_parts (nat_le 1 (length S.conditions) && nat_le (length S.conditions) 255) (nat_le (length S.rules) 4096) three.0 in
      let one = and_parts (nat_le 1 (length S.conditions)) (nat_le (length S.conditions) 255) two.0 in
      let least = leb-true 1 (length S.conditions) one.0 in
      let most = leb-true (length S.conditions) 255 one.1 in
      let few_rules = leb-true (length S.rules) 4096 two.1 in
      let conditions_are = conditions_len (start_in p.starts.items p.line_starts.items) 0 S.conditions in
      let rules_len : length (map action_in S.rules) ≡ length S.rules = length-map S.rules action_in in
      let n = rows_are in
      let few = a.few in
      let some = a.some in
      let k = slots_are in
      let least_slots = goes.ranges.slots in
      let most_slots = goes.ranges.few_slots in
      record {
        some_conditions = (omega (arith, least, conditions_are), omega (arith, most, conditions_are));
        few_rules = omega (arith, few_rules, rules_len);
        some_states = (omega (arith, n, some), omega (arith, n, few));
        some_classes = (goes.ranges.some_class, goes.ranges.classes);
        some_slots = (omega (arith, k, least_slots), omega (arith, k, most_slots, few));
      }

  row_of_state : (firsts : some_reject S ≡ false → (s : ℕ) → s < states p → length (accepts p s) ≤ 1) (s : ℕ) → s < length (assembled p S q).rows
      → IsRow (sizes_of (assembled p S q)).rules (sizes_of (assembled p S q)).states (sizes_of (assembled p S q)).classes (sizes_of (assembled p S q)).slots (some_rule_rejects (assembled p S q).rules) s (row_in (assembled p S q) s)
  row_of_state firsts s lt =
      let low : s < states p = omega (arith, lt, rows_are) in
      let o = otherwise_is s in
      let b = base_is s in
      let d = goes.ranges.default s low in
      let e = goes.ranges.base s low in
      let n = rows_are in
      let k = slots_are in
      let r = rules_are s in
      let rules_len : length (map action_in S.rules) ≡ length S.rules = length-map S.rules action_in in
      record {
        default_target = omega (arith, o, d, n);
        base = omega (arith, b, e, k);
        rules = λ i among. (let h = laws.in_range s i (subst (λ (l : List ℕ). Among l i) r among) in omega (arith, h, rules_len));
        ascending = subst Ascending (sym r) (laws.ascending s);
        first_alone = λ none. subst (λ (l : List ℕ). length l ≤ 1) (sym r) (firsts (sym (same_reject S.rules) ∙ none) s low);
        dead = λ z. (
          o ∙ ap (λ (m : ℕ). slice_index q.defaults m) z ∙ goes.ranges.dead_default,
          b ∙ ap (λ (m : ℕ). slice_index q.bases m) z ∙ goes.ranges.dead_base,
          r ∙ ap (λ (m : ℕ). accepts p m) z ∙ a.dead_accepts,
        );
      }

  slot_of_place : (i : ℕ) → i < length (assembled p S q).slots → IsSlot (sizes_of (assembled p S q)).states (sizes_of (assembled p S q)).classes (bases_of (assembled p S q).rows) i (slice_index_or (assembled p S q).slots i no_slot)
  slot_of_place i lt =
      subst (λ (bases : List ℕ). IsSlot (sizes_of (assembled p S q)).states (sizes_of (assembled p S q)).classes bases i (slice_index_or (assembled p S q).slots i no_slot)) (sym (bases_are q.defaults q.bases (lists_in p) bases_len lists_len))
      (slot_from (sizes_of (assembled p S q)) q.bases i (states p) q.class_count (slice_index_or (assembled p S q).slots i no_slot) rows_are refl a.some
      (seen (sym (check_is i)) (sym (next_is i)) (goes.ranges.slot i (omega (arith, lt, slots_are)))))
    where
      seen : {c d x y : ℕ} → c ≡ d → x ≡ y
          → ((c ≡ 0) × (x ≡ 0)) ⊎ ((1 ≤ c) × (c < states p) × (slice_index q.bases c ≤ i) × (i < slice_index q.bases c + q.class_count) × (x < states p))
          → ((d ≡ 0) × (y ≡ 0)) ⊎ ((1 ≤ d) × (d < states p) × (slice_index q.bases d ≤ i) × (i < slice_index q.bases d + q.class_count) × (y < states p))
      seen {c} {d} {x} {y} e f h = subst (λ (m : ℕ). ((m ≡ 0) × (y ≡ 0)) ⊎ ((1 ≤ m) × (m < states p) × (slice_index q.bases m ≤ i) × (i < slice_index q.bases m + q.class_count) × (y < states p))) e
          (subst (λ (m : ℕ). ((c ≡ 0) × (m ≡ 0)) ⊎ ((1 ≤ c) × (c < states p) × (slice_index q.bases c ≤ i) × (i < slice_index q.bases c + q.class_count) × (m < states p))) f h)

  pub is_table : (some_reject S ≡ false → (s : ℕ) → s < states p → length (accepts p s) ≤ 1) → HasTexts (assembled p S q) → IsTable (assembled p S q)
  is_table firsts texts =
      let four = and_parts (nat_le 1 (length S.conditions) && nat_le (length S.conditions) 255 && nat_le (length S.rules) 4096 && sound_conditions S.conditions) (sound_rules (length S.conditions) S.rules) sound in
      let three = and_parts (nat_le 1 (length S.conditions) && nat_le (length S.conditions) 255 && nat_le (length S.rules) 4096) (sound_conditions S.conditions) four.0 in
      record {
        sizes = sizes;
        conditions = each_condition (sizes_of (assembled p S q)) (start_in p.starts.items p.line_starts.items) 0 S.conditions three.1
            (λ c line_start h. let low = (below p a S count).start c line_start (omega (arith, h)) in omega (arith, low, rows_are)) texts.prints;
        rules = each_rule (sizes_of (assembled p S q)) (length S.conditions) 0 S.rules (conditions_len (start_in p.starts.items p.line_starts.items) 0 S.conditions) four.1 texts.literals;
        bytes = goes.bytes;
        class_of = each_of (λ i k. k < q.class_count) q.class_of 0 (λ b h. goes.class_of b (let len = goes.bytes in omega (arith, h, len)));
        rows = each_of (IsRow (sizes_of (assembled p S q)).rules (sizes_of (assembled p S q)).states (sizes_of (assembled p S q)).classes (sizes_of (assembled p S q)).slots (some_rule_rejects (assembled p S q).rules)) (assembled p S q).rows no_row (row_of_state firsts);
        slots = each_of (IsSlot (sizes_of (assembled p S q)).states (sizes_of (assembled p S q)).classes (bases_of (assembled p S q).rows)) (assembled p S q).slots no_slot slot_of_place;
      }
