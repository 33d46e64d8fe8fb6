-- The kinds of bytes, with one more of them.
use Rattle.std.proofs.Common.{◌≡◌, ℕ, zero, suc, ◌<◌, ◌⊎◌, Bool, List, [], ◌∷◌, ◌++◌, length, map, refl, sym, ap, ◌∙◌, inl, inr, get_or, arith, length-append}
use Rattle.std.specs.Prelude.{slice_index}
use Rattle.std.proofs.lemmas.Bool.{cases_lt}
use Rattle.std.proofs.lemmas.List.{get_or_append_left, get_or_push, map-append, length-map}
use Rattle.lex_semantics.specs.Text.{flag}
use Rattle.lexauto.specs.Moving.{AreKinds, first_at, marks_at}
use Rattle.lexauto.specs.declared.kinds.Kind.{Kind}

-- the kind at a place
pub kind_from : (kinds : List Kind) (i : ℕ) (k : Kind) → i < length kinds → k ≡ get_or kinds i k → (marks_at kinds i ≡ k.marks.items) × (first_at kinds i ≡ k.first)
kind_from [] i k h e = absurd (omega (arith, h))
kind_from (x ∷ kinds) zero k h e = (ap (λ (u : Kind). u.marks.items) (sym e), ap (λ (u : Kind). u.first) (sym e))
kind_from (x ∷ kinds) (suc i) k h e = kind_from kinds i k (omega (arith, h)) e

module _ (kinds : List Kind) (new : Kind) where
  marks_before : (i : ℕ) → i < length kinds → marks_at (kinds ++ new ∷ []) i ≡ marks_at kinds i
  marks_before i h = ap (λ (ms : List (List Bool)). get_or ms i []) (map-append (λ (k : Kind). k.marks.items) kinds (new ∷ []))
      ∙ get_or_append_left (map (λ (k : Kind). k.marks.items) kinds) (new.marks.items ∷ []) [] i (omega (arith, h, length-map kinds (λ (k : Kind). k.marks.items)))

  first_before : (i : ℕ) → i < length kinds → first_at (kinds ++ new ∷ []) i ≡ first_at kinds i
  first_before i h = ap (λ (fs : List ℕ). get_or fs i 0) (map-append (λ (k : Kind). k.first) kinds (new ∷ []))
      ∙ get_or_append_left (map (λ (k : Kind). k.first) kinds) (new.first ∷ []) 0 i (omega (arith, h, length-map kinds (λ (k : Kind). k.first)))

  marks_last : marks_at (kinds ++ new ∷ []) (length kinds) ≡ new.marks.items
  marks_last = ap (λ (ms : List (List Bool)). get_or ms (length kinds) []) (map-append (λ (k : Kind). k.marks.items) kinds (new ∷ []))
      ∙ get_or_push (map (λ (k : Kind). k.marks.items) kinds) new.marks.items [] (length kinds) (length-map kinds (λ (k : Kind). k.marks.items))

  first_last : first_at (kinds ++ new ∷ []) (length kinds) ≡ new.first
  first_last = ap (λ (fs : List ℕ). get_or fs (length kinds) 0) (map-append (λ (k : Kind). k.first) kinds (new ∷ []))
      ∙ get_or_push (map (λ (k : Kind). k.first) kinds) new.first 0 (length kinds) (length-map kinds (λ (k : Kind). k.first))

-- a place before the end, or the one at the end
place_in : (places : List ℕ) (p b : ℕ) → b < length (places ++ p ∷ [])
    → ((b < length places) × (slice_index (places ++ p ∷ []) b ≡ slice_index places b)) ⊎ ((b ≡ length places) × (slice_index (places ++ p ∷ []) b ≡ p))
place_in places p b h = elim (cases_lt b (length places)) [
  | inl low ↦ inl (low, get_or_append_left places (p ∷ []) 0 b low)
  | inr past ↦ (let last : b ≡ length places = omega (arith, h, past, length-append places (p ∷ [])) in
      inr (last, ap (slice_index (places ++ p ∷ [])) last ∙ get_or_push places p 0 (length places) refl))
]

module _ (reads : ℕ → ℕ → Bool) (kinds : List Kind) (places : List ℕ) (are : AreKinds reads kinds places) where
  longer : (p n : ℕ) → n < length places → n < length (places ++ p ∷ [])
  longer p n h = omega (arith, h, length-append places (p ∷ []))

  -- one byte more of a kind that there is
  pub one_more_byte : (p : ℕ) → p < length kinds → ((q : ℕ) → flag (marks_at kinds p) q ≡ reads (length places) q) → AreKinds reads kinds (places ++ p ∷ [])
  one_more_byte p within told = record {
    low = λ b h. elim (place_in places p b h) [
      | inl o ↦ (let l = are.low b o.0 in omega (arith, l, o.1))
      | inr n ↦ omega (arith, within, n.1)
    ];
    each = λ b q h. elim (place_in places p b h) [
      | inl o ↦ ap (λ (i : ℕ). flag (marks_at kinds i) q) o.1 ∙ are.each b q o.0
      | inr n ↦ ap (λ (i : ℕ). flag (marks_at kinds i) q) n.1 ∙ told q ∙ ap (λ (c : ℕ). reads c q) (sym n.0)
    ];
    first = λ b h. elim (place_in places p b h) [
      | inl o ↦ (let l = are.first b o.0 in omega (arith, l, ap (first_at kinds) o.1))
      | inr n ↦ (let l = are.early p within in omega (arith, l, ap (first_at kinds) n.1, n.0))
    ];
    early = λ i h. longer p (first_at kinds i) (are.early i h);
    same = are.same;
  }

  -- one byte more, of a new kind
  pub one_more_kind : (new : Kind) → new.first ≡ length places → ((q : ℕ) → flag new.marks.items q ≡ reads (length places) q)
      → AreKinds reads (kinds ++ new ∷ []) (places ++ length kinds ∷ [])
  one_more_kind new first told =
      let more : length (kinds ++ new ∷ []) ≡ suc (length kinds) = omega (arith, length-append kinds (new ∷ [])) in
      let bytes : length (places ++ length kinds ∷ []) ≡ suc (length places) = omega (arith, length-append places (length kinds ∷ [])) in
      record {
        low = λ b h. elim (place_in places (length kinds) b h) [
          | inl o ↦ (let l = are.low b o.0 in omega (arith, l, o.1, more))
          | inr n ↦ omega (arith, n.1, more)
        ];
        each = λ b q h. elim (place_in places (length kinds) b h) [
          | inl o ↦ ap (λ (i : ℕ). flag (marks_at (kinds ++ new ∷ []) i) q) o.1 ∙ ap (λ (m : List Bool). flag m q) (marks_before kinds new (slice_index places b) (are.low b o.0)) ∙ are.each b q o.0
          | inr n ↦ ap (λ (i : ℕ). flag (marks_at (kinds ++ new ∷ []) i) q) n.1 ∙ ap (λ (m : List Bool). flag m q) (marks_last kinds new) ∙ told q ∙ ap (λ (c : ℕ). reads c q) (sym n.0)
        ];
        first = λ b h. elim (place_in places (length kinds) b h) [
          | inl o ↦ (let l = are.first b o.0 in omega (arith, l, ap (first_at (kinds ++ new ∷ [])) o.1, first_before kinds new (slice_index places b) (are.low b o.0)))
          | inr n ↦ omega (arith, ap (first_at (kinds ++ new ∷ [])) n.1, first_last kinds new, first, n.0)
        ];
        early = λ i h. elim (cases_lt i (length kinds)) [
          | inl low ↦ (let l = are.early i low in omega (arith, l, first_before kinds new i low, bytes))
          | inr past ↦ (let last : i ≡ length kinds = omega (arith, h, past, more) in omega (arith, ap (first_at (kinds ++ new ∷ [])) last, first_last kinds new, first, bytes))
        ];
        same = λ i q h. elim (cases_lt i (length kinds)) [
          | inl low ↦ ap (λ (m : List Bool). flag m q) (marks_before kinds new i low) ∙ are.same i q low ∙ ap (λ (c : ℕ). reads c q) (sym (first_before kinds new i low))
          | inr past ↦ (let last : i ≡ length kinds = omega (arith, h, past, more) in
              ap (λ (j : ℕ). flag (marks_at (kinds ++ new ∷ []) j) q) last ∙ ap (λ (m : List Bool). flag m q) (marks_last kinds new) ∙ told q
              ∙ ap (λ (c : ℕ). reads c q) (sym (ap (first_at (kinds ++ new ∷ [])) last ∙ first_last kinds new ∙ first)))
        ];
      }
