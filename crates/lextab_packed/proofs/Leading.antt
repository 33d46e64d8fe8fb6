-- Where texts lead, while states become live.
use Rattle.std.proofs.Common.{◌≡◌, ℕ, ◌+◌, ◌*◌, ◌<◌, ◌≤◌, ◌⊎◌, Bool, true, false, List, [], ◌∷◌, length, sym, subst, ◌∙◌, inl, inr, arith}
use Rattle.std.specs.Prelude.{slice_index}
use Rattle.std.proofs.Props.{props}
use mathlib.Core.Logic.{∥∥₁_elim}
use Rattle.lex_semantics.specs.Text.{IsText, flag}
use Rattle.lextab_packed.specs.Live.{go, after, GoesTo, LeadsOn, AreLive}
use Rattle.lextab_packed.specs.Inverse.{Has}
use Rattle.lextab_packed.specs.Spreading.{Spreads}

-- So far just live states are live; each of those that wait accepts or is live; and each state that goes to one that
-- accepts or is live is live itself, unless that one waits.
pub record Closing (next : List ℕ) (acc live : List Bool) (waiting : List ℕ) : Type 0 where
  pub one_each : length live ≡ length acc
  pub sound : (s : ℕ) → flag live s ≡ true → LeadsOn next acc s
  pub known : (t : ℕ) → Has waiting t → (flag acc t ≡ true) ⊎ (flag live t ≡ true)
  pub closed : (s b : ℕ) → s < length acc → b < 256 → (flag acc (go next s b) ≡ true) ⊎ (flag live (go next s b) ≡ true) → Has waiting (go next s b) ⊎ (flag live s ≡ true)

-- one byte before a text
pub longer : (next : List ℕ) (acc : List Bool) (s b t : ℕ) → b < 256 → go next s b ≡ t → LeadsOn next acc t → LeadsOn next acc s
longer next acc s b t h e (w, text, some, a) = (b ∷ w, (h, text), omega (arith, some), subst (λ (u : ℕ). flag acc (after next u w) ≡ true) (sym e) a)

pub at_once : (next : List ℕ) (acc : List Bool) (s b t : ℕ) → b < 256 → go next s b ≡ t → flag acc t ≡ true → LeadsOn next acc s
at_once next acc s b t h e a = (b ∷ [], (h, tt), omega arith, subst (λ (u : ℕ). flag acc u ≡ true) (sym e) a)

module _ (next : List ℕ) (acc : List Bool) (rows : length next ≡ 256 * length acc) where
  pub round : (live live' : List Bool) (waited waiting waiting' : List ℕ) (target : ℕ)
      → ((x : ℕ) → Has waited x → Has waiting x ⊎ (x ≡ target)) → ((x : ℕ) → Has waiting x → Has waited x) → Has waited target
      → Spreads (GoesTo next target) acc live waiting live' waiting' → Closing next acc live waited → Closing next acc live' waiting'
  round live live' waited waiting waiting' target out back there f c = record {
    one_each = f.one_each ∙ c.one_each;
    sound = λ s t. elim (f.only s t) [
      | inl o ↦ c.sound s o
      | inr (b, h, inside, e) ↦ elim (c.known target there) [
        | inl a ↦ at_once next acc s b target h e a
        | inr l ↦ longer next acc s b target h e (c.sound target l)
      ]
    ];
    known = λ t w. elim (f.waiting_live t w) [
      | inl k ↦ elim (c.known t (back t k)) [ inl a ↦ inl a | inr l ↦ inr (f.keeps t l) ]
      | inr l ↦ inr l
    ];
    closed = λ s b hs hb good. closes s b hs hb good;
  }
    where
      was : (s b : ℕ) → s < length acc → b < 256 → (flag acc (go next s b) ≡ true) ⊎ (flag live (go next s b) ≡ true) → Has waiting' (go next s b) ⊎ (flag live' s ≡ true)
      was s b hs hb good = elim (c.closed s b hs hb good) [
        | inl w ↦ elim (out (go next s b) w) [
          | inl k ↦ inl (f.still_waits (go next s b) k)
          | inr e ↦ inr (f.set s (b, hb, omega (arith, rows, hs, hb), e))
        ]
        | inr l ↦ inr (f.keeps s l)
      ]

      closes : (s b : ℕ) → s < length acc → b < 256 → (flag acc (go next s b) ≡ true) ⊎ (flag live' (go next s b) ≡ true) → Has waiting' (go next s b) ⊎ (flag live' s ≡ true)
      closes s b hs hb (inl a) = was s b hs hb (inl a)
      closes s b hs hb (inr l) = elim (f.waits (go next s b) l) [
        | inl o ↦ was s b hs hb (inr o)
        | inr (inl a) ↦ was s b hs hb (inl a)
        | inr (inr w) ↦ inl w
      ]

  pub begins : (live : List Bool) (waiting : List ℕ) → length live ≡ length acc → ((x : ℕ) → flag live x ≡ false)
      → ((x : ℕ) → Has waiting x → flag acc x ≡ true) → ((x : ℕ) → flag acc x ≡ true → Has waiting x) → Closing next acc live waiting
  begins live waiting one none from to = record {
    one_each = one;
    sound = λ s t. absurd (clash (sym (none s) ∙ t));
    known = λ t w. inl (from t w);
    closed = λ s b hs hb good. elim good [ inl a ↦ inl (to (go next s b) a) | inr l ↦ absurd (clash (sym (none (go next s b)) ∙ l)) ];
  }
    where
      clash : false ≡ true → ⊥
      clash e = absurd cc

  module _ (known : (i : ℕ) → i < length next → slice_index next i < length acc) (live : List Bool) (waiting : List ℕ) (none : (x : ℕ) → Has waiting x → ⊥) (c : Closing next acc live waiting) where
    -- states that go to a live one or one that accepts are live
    now : (s b : ℕ) → s < length acc → b < 256 → (flag acc (go next s b) ≡ true) ⊎ (flag live (go next s b) ≡ true) → flag live s ≡ true
    now s b hs hb good = elim (c.closed s b hs hb good) [ inl w ↦ absurd (none (go next s b) w) | inr l ↦ l ]

    all : (w : List ℕ) (s : ℕ) → s < length acc → IsText w → 1 ≤ length w → flag acc (after next s w) ≡ true → flag live s ≡ true
    all [] s hs text some a = absurd (omega (arith, some))
    all (b ∷ []) s hs text some a = now s b hs text.0 (inl a)
    all (b ∷ d ∷ w) s hs text some a =
        now s b hs text.0 (inr (all (d ∷ w) (go next s b) (known (256 * s + b) (let h = text.0 in omega (arith, rows, hs, h))) text.1 (omega arith) a))

    pub closed : AreLive next acc live
    closed = record {
      one_each = c.one_each;
      each = λ s h. ((λ t. ∣ c.sound s t ∣₁), (λ l. from s h l));
    }
      where
        from : (s : ℕ) → s < length acc → ∥ LeadsOn next acc s ∥₁ → flag live s ≡ true
        from s h l = ∥∥₁_elim l (let p : IsProp (flag live s ≡ true) = Prim.hlevel props in p) (λ (w, text, some, a). all w s h text some a)
