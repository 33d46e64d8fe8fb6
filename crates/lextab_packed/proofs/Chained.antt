-- A walk over the links to one target.
use Rattle.std.proofs.Common.{◌≡◌, ℕ, suc, ◌+◌, ◌*◌, ◌<◌, ◌≤◌, ◌⊎◌, ◌-◌, ◌/◌, ◌%◌, Bool, List, length, refl, ap, sym, subst, ◌∙◌, inl, inr, arith}
use Rattle.std.specs.Prelude.{slice_index}
use Rattle.std.proofs.lemmas.Bool.{true_from_ne_false, false≢true}
use Rattle.lex_semantics.specs.Text.{flag}
use Rattle.lextab_packed.specs.Live.{GoesTo}
use Rattle.lextab_packed.specs.Inverse.{AreChains, target_of}
use Rattle.lextab_packed.specs.Spreading.{Spreads}
use Rattle.lextab_packed.proofs.Spreads.{spreads_none, spreads_then}

-- some link of the state x at this place or later has the target
abbrev pub LinkedFrom : (next entries : List ℕ) → ℕ → ℕ → ℕ → Type 0
LinkedFrom next entries target e x = (k : ℕ) × (e ≤ k) × (k < length entries) × (target_of next entries k ≡ target) × (slice_index entries k / 256 ≡ x)

-- The walk stands before the link e: from there on the links with this target are done.
pub record Walked (next entries : List ℕ) (target e : ℕ) (acc live : List Bool) (waiting : List ℕ) (live' : List Bool) (waiting' : List ℕ) : Type 0 where
  pub low : e ≤ length entries
  pub here : (z : ℕ) → e ≡ suc z → target_of next entries z ≡ target
  pub spreads : Spreads (LinkedFrom next entries target e) acc live waiting live' waiting'

module _ (next last entries before : List ℕ) (chains : AreChains next last entries before (length next)) (acc : List Bool) (target : ℕ) where
  pub starts : (live : List Bool) (waiting : List ℕ) (e : ℕ) → target < length last → e ≡ slice_index last target → Walked next entries target e acc live waiting live waiting
  starts live waiting e low is = record {
    low = let l = chains.last_low target low in omega (arith, l, is);
    here = λ z q. chains.last_is target z low (sym is ∙ q);
    spreads = spreads_none (LinkedFrom next entries target e) acc live waiting none;
  }
    where
      none : (x : ℕ) → LinkedFrom next entries target e x → ⊥
      none x (k, from, inside, to, state) =
          let l : k < slice_index last target = subst (λ (t : ℕ). k < slice_index last t) to (chains.last_top k inside) in
          omega (arith, l, from, is)

  pub ends : (live live' : List Bool) (waiting waiting' : List ℕ) → Walked next entries target 0 acc live waiting live' waiting' → Spreads (GoesTo next target) acc live waiting live' waiting'
  ends live live' waiting waiting' w = record {
    one_each = done.one_each;
    set = λ x (b, hb, within, to). true_from_ne_false (flag live' x) (λ unset. chains.last_all (256 * x + b) within (λ k inside under same state.
        false≢true (sym unset ∙ done.set x (k, omega arith, inside, same ∙ to, state ∙ omega (arith, hb)))));
    keeps = done.keeps;
    only = λ x is. elim (done.only x is) [ inl l ↦ inl l | inr p ↦ inr (goes x p) ];
    waits = done.waits;
    still_waits = done.still_waits;
    waiting_live = done.waiting_live;
    fewer = done.fewer;
  }
    where
      done : Spreads (LinkedFrom next entries target 0) acc live waiting live' waiting'
      done = w.spreads

      goes : (x : ℕ) → LinkedFrom next entries target 0 x → GoesTo next target x
      goes x (k, from, inside, to, state) =
          let at : 256 * x + slice_index entries k % 256 ≡ slice_index entries k = omega (arith, state) in
          let low = chains.inside k inside in
          (slice_index entries k % 256, omega arith, omega (arith, at, low), ap (λ (i : ℕ). slice_index next i) at ∙ to)

  -- from the link z to the one before it, where the state of z was made live
  pub steps : (l m n : List Bool) (u v w : List ℕ) (z e s : ℕ) → suc z ≤ length entries → s ≡ slice_index entries z / 256 → e ≡ slice_index before z
      → Walked next entries target (suc z) acc l u m v → Spreads (λ x. x ≡ s) acc m v n w → Walked next entries target e acc l u n w
  steps l m n u v w z e s inside state is k f = record {
    low = let b = chains.before_low z inside in omega (arith, b, is, inside);
    here = λ y q. chains.before_is z y inside (sym is ∙ q) ∙ k.here z refl;
    spreads = spreads_then (LinkedFrom next entries target (suc z)) (λ x. x ≡ s) (LinkedFrom next entries target e) acc l m n u v w k.spreads f split left right;
  }
    where
      order : (i j : ℕ) → (i < j) ⊎ (i ≡ j) ⊎ (j < i)
      order i j = grind arith

      split : (x : ℕ) → LinkedFrom next entries target e x → LinkedFrom next entries target (suc z) x ⊎ (x ≡ s)
      split x (j, from, within, to, of) = elim (order j z) [
        | inl less ↦
            let earlier : j < slice_index before z = chains.before_all z j inside less (to ∙ sym (k.here z refl)) in
            absurd (omega (arith, earlier, from, is))
        | inr (inl same) ↦ inr (sym of ∙ ap (λ (i : ℕ). slice_index entries i / 256) same ∙ sym state)
        | inr (inr more) ↦ inl (j, omega (arith, more), within, to, of)
      ]

      left : (x : ℕ) → LinkedFrom next entries target (suc z) x → LinkedFrom next entries target e x
      left x (j, from, within, to, of) = (j, (let low = chains.before_low z inside in omega (arith, low, is, from)), within, to, of)

      right : (x : ℕ) → x ≡ s → LinkedFrom next entries target e x
      right x same = (z, (let low = chains.before_low z inside in omega (arith, low, is)), inside, k.here z refl, sym state ∙ sym same)

  pub steps_from : (l m n : List Bool) (u v w : List ℕ) (now e s : ℕ) → 0 < now → s ≡ slice_index entries (now - 1) / 256 → e ≡ slice_index before (now - 1)
      → Walked next entries target now acc l u m v → Spreads (λ x. x ≡ s) acc m v n w → Walked next entries target e acc l u n w
  steps_from l m n u v w now e s some state is k f =
      let same : suc (now - 1) ≡ now = omega (arith, some) in
      let low = k.low in
      steps l m n u v w (now - 1) e s (omega (arith, some, low)) state is (subst (λ (i : ℕ). Walked next entries target i acc l u m v) (sym same) k) f
