-- A table is packed where its columns are a packing, and the other way round.
use Rattle.std.specs.Prelude.{◌≡◌, ◌⊎◌, ℕ, zero, suc, ◌+◌, ◌<◌, ◌≤◌, List, length, map, slice_index}
use Rattle.std.proofs.Common.{inl, inr, refl, sym, ap, ◌∙◌, subst, arith}
use Rattle.std.proofs.lemmas.List.{length-map, get_or-map, get_or_past}
use Rattle.lexauto_dfa.specs.Numbering.{InOrder}
use Rattle.lextab_packed.specs.Table.{Table, Row, Slot}
use Rattle.lextab_packed.specs.Steps.{slot_at}
use Rattle.lextab.specs.Classes.{IsClassMap}
use Rattle.lextab.specs.Columns.{IsEntry, IsTaken, AreFree, IsSize, IsPacking, packing_in}
use Rattle.lextab.specs.Packing.{by_class, IsDefault, IsException, IsTakenIn, FitsAt, IsPacked}
use Rattle.lextab.proofs.Columns.{default_at, base_at, check_at, next_at}
use Rattle.lextab.proofs.Orders.{less_or_not}
use Rattle.lextab.proofs.Numbered.{StandsBefore, order_in, below_in, used_in, numbered_from}

module _ (n : ℕ) (go : ℕ → ℕ → ℕ) (t : Table) where
  abbrev to : ℕ → ℕ → ℕ
  to = by_class go t.class_of

  abbrev defaults : List ℕ
  defaults = map (λ (r : Row). r.default_target) t.rows

  abbrev bases : List ℕ
  bases = map (λ (r : Row). r.base) t.rows

  abbrev checks : List ℕ
  checks = map (λ (s : Slot). s.check) t.slots

  abbrev nexts : List ℕ
  nexts = map (λ (s : Slot). s.next) t.slots

  entry_of : (s k : ℕ) → IsException go t s k → IsEntry to t.classes defaults s k
  entry_of s k e = record { class = e.0; other = λ q. e.1 (q ∙ default_at t.rows s) }

  exception_of : (s k : ℕ) → IsEntry to t.classes defaults s k → IsException go t s k
  exception_of s k e = (e.class, λ q. e.other (q ∙ sym (default_at t.rows s)))

  taken_of : (s i : ℕ) → IsTakenIn go t s i → IsTaken to t.classes defaults bases s i
  taken_of s i (r, k, before, e, here) = record { state = r; class = k; before = before; entry = entry_of r k e; here = ap (λ b. b + k) (base_at t.rows r) ∙ here }

  taken_in : (s i : ℕ) → IsTaken to t.classes defaults bases s i → IsTakenIn go t s i
  taken_in s i x = (x.state, x.class, x.before, exception_of x.state x.class x.entry, ap (λ b. b + x.class) (sym (base_at t.rows x.state)) ∙ x.here)

  fits_of : (s b : ℕ) → AreFree to t.classes defaults bases s b → FitsAt go t s b
  fits_of s b f k e x = f k (entry_of s k e) (taken_of s (b + k) x)

  free_of : (s b : ℕ) → FitsAt go t s b → AreFree to t.classes defaults bases s b
  free_of s b f k e x = f k (exception_of s k e) (taken_in s (b + k) x)

  slot_is : (i a b : ℕ) → slice_index checks i ≡ a → slice_index nexts i ≡ b → slot_at t i ≡ record { check = a; next = b }
  slot_is i a b e f = pair (slot_at t i) (sym (check_at t.slots i) ∙ e) (sym (next_at t.slots i) ∙ f)
    where
      pair : (s : Slot) → s.check ≡ a → s.next ≡ b → s ≡ record { check = a; next = b }
      pair s e f = rw (sym e, sym f) refl

  size : length checks ≡ length t.slots
  size = length-map t.slots (λ (s : Slot). s.check)

  size_of_nexts : length nexts ≡ length t.slots
  size_of_nexts = length-map t.slots (λ (s : Slot). s.next)

  class_at : (b : ℕ) → b < length t.class_of → slice_index (map suc t.class_of) b ≡ suc (slice_index t.class_of b)
  class_at b h = get_or-map suc t.class_of b 0 0 h

  numbers : length (map suc t.class_of) ≡ length t.class_of
  numbers = length-map t.class_of suc

  class_map_of : IsPacked n go t → IsClassMap n go t.class_of t.classes
  class_map_of x = let len = x.bytes in record {
    bytes = x.bytes;
    alike = λ b c hb hc. (x.classes b c hb hc).1;
    apart = λ b c hb hc. (x.classes b c hb hc).0;
    order = λ b k hb less. (let at = class_at b (omega (arith, hb, len)) in
        let w = order_in 0 (map suc t.class_of) t.classes x.numbered b (suc k) (omega (arith, hb, len, numbers)) (omega arith) (omega (arith, at, less)) in
        (w.0, w.1, (let l = w.1 in let e = w.2 in let q = class_at w.0 (omega (arith, l, hb, len)) in omega (arith, e, q))));
    below = λ b hb. (let l = below_in 0 (map suc t.class_of) t.classes x.numbered b (omega (arith, hb, len, numbers)) in let at = class_at b (omega (arith, hb, len)) in omega (arith, l, at));
    used = λ k h. (let w = used_in 0 (map suc t.class_of) t.classes x.numbered (suc k) (omega arith) (omega (arith, h)) in let l = w.1 in let e = w.2 in
        (w.0, omega (arith, l, len, numbers), (let q = class_at w.0 (omega (arith, l, numbers)) in omega (arith, e, q))));
  }

  pub packing_of : IsPacked n go t → IsPacking n go (packing_in t)
  packing_of x = record {
    classes = class_map_of x;
    rows = record {
      defaults_len = length-map t.rows (λ (r : Row). r.default_target) ∙ x.rows;
      default = λ s h. subst (λ d. IsDefault (to s) t.classes d) (sym (default_at t.rows s)) (x.default s h);
      bases_len = length-map t.rows (λ (r : Row). r.base) ∙ x.rows;
      base = λ s h. record {
        fits = free_of s (slice_index bases s) (subst (λ b. FitsAt go t s b) (sym (base_at t.rows s)) (x.fits s h));
        least = λ c less f. x.least s c h (subst (λ b. c < b) (base_at t.rows s) less) (fits_of s c f);
      };
      check_len = subst (λ l. IsSize n t.classes bases l) (sym size) sized;
      next_len = subst (λ l. IsSize n t.classes bases l) (sym size_of_nexts) sized;
      slots = record {
        used = λ s k h e. (let at : slot_at t (slice_index bases s + k) ≡ record { check = s; next = to s k } =
            subst (λ b. slot_at t (b + k) ≡ record { check = s; next = to s k }) (sym (base_at t.rows s)) (x.used s k h (exception_of s k e)) in
            (check_at t.slots (slice_index bases s + k) ∙ ap (λ (z : Slot). z.check) at, next_at t.slots (slice_index bases s + k) ∙ ap (λ (z : Slot). z.next) at));
        rest = λ i h. elim (x.unused i) [
          | inl y ↦ inl (taken_of n i y)
          | inr z ↦ inr (check_at t.slots i ∙ ap (λ (z : Slot). z.check) z, next_at t.slots i ∙ ap (λ (z : Slot). z.next) z)
        ];
      };
    };
  }
    where
      sized : IsSize n t.classes bases (length t.slots)
      sized = record {
        all = λ s h. subst (λ b. b + t.classes ≤ length t.slots) (sym (base_at t.rows s)) (x.inside s h);
        one = ((x.last).0, (x.last).1, ap (λ b. b + t.classes) (base_at t.rows (x.last).0) ∙ (x.last).2);
      }

  module _ (x : IsPacking n go (packing_in t)) where
    numbered : InOrder 0 (map suc t.class_of) t.classes
    numbered = let len = (x.classes).bytes in
        numbered_from 0 (map suc t.class_of) t.classes (omega arith)
        (λ b h. let l = (x.classes).below b (omega (arith, h, len, numbers)) in let at = class_at b (omega (arith, h, numbers)) in omega (arith, l, at))
        (λ b j h g less. order b j h g less)
        (λ j g h. used j g h)
      where
        pred : (j : ℕ) → 0 < j → (k : ℕ) × (j ≡ suc k)
        pred zero h = absurd (omega (arith, h))
        pred (suc k) h = (k, refl)

        order : (b j : ℕ) → b < length (map suc t.class_of) → 0 < j → j < slice_index (map suc t.class_of) b → StandsBefore (map suc t.class_of) b j
        order b j h g less = let (k, is) = pred j g in let len = (x.classes).bytes in
            let at = class_at b (omega (arith, h, numbers)) in
            let w = (x.classes).order b k (omega (arith, h, len, numbers)) (omega (arith, less, at, is)) in
            let l = w.1 in let e = w.2 in
            (w.0, w.1, (let q = class_at w.0 (omega (arith, l, h, numbers)) in omega (arith, e, q, is)))

        used : (j : ℕ) → 0 < j → j ≤ t.classes → StandsBefore (map suc t.class_of) (length (map suc t.class_of)) j
        used j g h = let (k, is) = pred j g in let len = (x.classes).bytes in
            let w = (x.classes).used k (omega (arith, h, is)) in
            let l = w.1 in let e = w.2 in
            (w.0, omega (arith, l, len, numbers), (let q = class_at w.0 (omega (arith, l, len)) in omega (arith, e, q, is)))

    pub packed_of : IsPacked n go t
    packed_of = record {
      bytes = (x.classes).bytes;
      classes = λ b c hb hc. ((x.classes).apart b c hb hc, (x.classes).alike b c hb hc);
      numbered = numbered;
      rows = sym (length-map t.rows (λ (r : Row). r.default_target)) ∙ (x.rows).defaults_len;
      default = λ s h. subst (λ d. IsDefault (to s) t.classes d) (default_at t.rows s) ((x.rows).default s h);
      fits = λ s h. subst (λ b. FitsAt go t s b) (base_at t.rows s) (fits_of s (slice_index bases s) ((x.rows).base s h).fits);
      least = λ s b h less f. ((x.rows).base s h).least b (subst (λ c. b < c) (sym (base_at t.rows s)) less) (free_of s b f);
      inside = λ s h. (let l = ((x.rows).check_len).all s h in let e = base_at t.rows s in omega (arith, l, e, size));
      last = (let o = ((x.rows).check_len).one in (o.0, o.1, (let l = o.2 in let e = base_at t.rows o.0 in omega (arith, l, e, size))));
      used = λ s k h e. (let u = ((x.rows).slots).used s k h (entry_of s k e) in
          subst (λ b. slot_at t (b + k) ≡ record { check = s; next = to s k }) (base_at t.rows s) (slot_is (slice_index bases s + k) s (to s k) u.0 u.1));
      unused = unused;
    }
      where
        unused : (i : ℕ) → IsTakenIn go t n i ⊎ (slot_at t i ≡ record { check = 0; next = 0 })
        unused i = elim (less_or_not i (length checks)) [
          | inl h ↦ elim (((x.rows).slots).rest i h) [
            | inl y ↦ inl (taken_in n i y)
            | inr z ↦ inr (slot_is i 0 0 z.0 z.1)
          ]
          | inr past ↦ inr (get_or_past t.slots i (record { check = 0; next = 0 }) (omega (arith, past, size)))
        ]
