-- States that go on, while passes find them.
use mathlib.Core.Logic.{∥∥₁_elim}
use Rattle.std.proofs.Common.{◌≡◌, ℕ, zero, suc, ◌+◌, ◌<◌, ◌≤◌, ◌⊎◌, Bool, true, false, List, [], ◌∷◌, length, replicate, map, sym, ap, subst, ◌∙◌, arith, inl, inr}
use Rattle.std.specs.Prelude.{slice_index}
use Rattle.std.proofs.Props.{props}
use Rattle.std.proofs.lemmas.List.{length-map}
use Rattle.lex_semantics.specs.Text.{IsText, Among, flag}
use Rattle.lex_semantics.specs.Machine.{Machine, walk}
use Rattle.lex_semantics.specs.MachineLaws.{LeadsToAccept}
use Rattle.lextab_packed.specs.Checks.{IsTable}
use Rattle.lextab_packed.specs.Invariant.{GoesOn}
use Rattle.lextab_packed.specs.Passes.{HasClass, IsGood, AllGoOn, SettledFrom}
use Rattle.lextab_packed.specs.Steps.{row_in, slot_at, target, step_of, machine_of_table}
use Rattle.lextab_packed.specs.Views.{row_of, table_of}
use Rattle.lextab_packed.specs.declared.parts.TableParts.{TableParts}
use Rattle.lextab_packed.proofs.Finding.{accepted_in}
use Rattle.lextab_packed.proofs.Going.{accepts, some_rule, is_some, flag_at}
use Rattle.lextab_packed.proofs.Places.{step_below, step_is}

module _ (p : TableParts) (ok : IsTable (table_of p)) where
  abbrev plain : Machine
  plain = machine_of_table (table_of p) (λ q. false)

  abbrev acc : List Bool
  acc = map accepts p.rows.items

  -- one byte before a text
  one_before : (live : List Bool) (s b : ℕ) → AllGoOn (table_of p) live → b < 256 → IsGood acc live (step_of (table_of p) s b) → LeadsToAccept plain s
  one_before live s b sound h (inl a) =
      let q = step_of (table_of p) s b in
      let r = some_rule (accepted_in (table_of p) q) (sym (flag_at p.rows.items q) ∙ a) in
      (b ∷ [], (h, tt), omega arith, r.0, r.1)
  one_before live s b sound h (inr l) =
      let (w, text, some, i, a) = sound (step_of (table_of p) s b) l in
      (b ∷ w, (h, text), omega (arith, some), i, a)

  pub still : (live live' : List Bool) (s b : ℕ) → AllGoOn (table_of p) live → b < 256 → IsGood acc live (step_of (table_of p) s b)
      → ((x : ℕ) → flag live' x ≡ true → (flag live x ≡ true) ⊎ (x ≡ s)) → AllGoOn (table_of p) live'
  still live live' s b sound h good out x t = elim (out x t) [
    | inl l ↦ sound x l
    | inr e ↦ subst (λ (q : ℕ). LeadsToAccept plain q) (sym e) (one_before live s b sound h good)
  ]

  -- bytes of one class lead to one state
  by_class : (s b d : ℕ) → s < length (table_of p).rows → b < 256 → d < 256 → slice_index p.class_of.items d ≡ slice_index p.class_of.items b → step_of (table_of p) s b ≡ step_of (table_of p) s d
  by_class s b d hs hb hd e =
      step_is (table_of p) ok s b hs hb
      ∙ ap (λ (k : ℕ). target (row_in (table_of p) s) (slot_at (table_of p) ((row_in (table_of p) s).base + k)) s) (sym e)
      ∙ sym (step_is (table_of p) ok s d hs hd)

  module _ (bytes : List ℕ) (live : List Bool)
      (has : (b : ℕ) → b < 256 → HasClass p.class_of.items bytes (slice_index p.class_of.items b)) (len : length live ≡ length p.rows.items)
      (sound : AllGoOn (table_of p) live) (settled : SettledFrom (table_of p) bytes acc live 0) where
    n : length (table_of p).rows ≡ length p.rows.items
    n = length-map p.rows.items row_of

    must : (s b : ℕ) → s < length live → b < 256 → IsGood acc live (step_of (table_of p) s b) → flag live s ≡ true
    must s b hs hb good = elim (settled s (omega arith) hs) [
      | inl l ↦ l
      | inr none ↦ (
          let (k, lt, small, e) = has b hb in
          let same = by_class s b (slice_index bytes k) (omega (arith, hs, len, n)) hb small e in
          absurd (none k lt (subst (λ (q : ℕ). IsGood acc live q) same good))
          )
    ]

    all : (w : List ℕ) (s : ℕ) → s < length live → IsText w → 1 ≤ length w → (i : ℕ) → Among (plain.accepts (walk plain s w)) i → flag live s ≡ true
    all [] s hs text some i a = absurd (omega (arith, some))
    all (b ∷ []) s hs text some i a =
        let q = step_of (table_of p) s b in
        must s b hs text.0 (inl (flag_at p.rows.items q ∙ is_some (accepted_in (table_of p) q) i a))
    all (b ∷ d ∷ w) s hs text some i a =
        let low = step_below (table_of p) ok s b in
        must s b hs text.0 (inr (all (d ∷ w) (step_of (table_of p) s b) (omega (arith, low, len, n)) text.1 (omega arith) i a))

    pub found : GoesOn (table_of p) live
    found = record {
      len = len ∙ sym n;
      leads = λ s h. ((λ t. ∣ sound s t ∣₁), (λ l. from s (omega (arith, h, len, n)) l));
    }
      where
        from : (s : ℕ) → s < length live → ∥ LeadsToAccept plain s ∥₁ → flag live s ≡ true
        from s h l = ∥∥₁_elim l (let q : IsProp (flag live s ≡ true) = Prim.hlevel props in q) (λ (w, text, some, i, a). all w s h text some i a)

-- no flag is set in a list of flags that are not
pub none_set : (n x : ℕ) → flag (replicate n false) x ≡ true → ⊥
none_set zero x e = absurd cc
none_set (suc n) zero e = absurd cc
none_set (suc n) (suc x) e = none_set n x e
