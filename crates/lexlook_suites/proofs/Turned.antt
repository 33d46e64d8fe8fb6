-- What turns go through, one after another.
use Rattle.std.proofs.Common.{◌≡◌, ◌⊎◌, ◌↔◌, ℕ, ◌+◌, ◌*◌, ◌<◌, ◌≤◌, Bool, true, false, List, [], ◌∷◌, length, drop, inl, inr, refl, subst, arith}
use Rattle.std.proofs.lemmas.List.{get_or_past}
use Rattle.lex_semantics.specs.Text.{at_line_start, flag}
use Rattle.lexauto_dfa.specs.Automata.{start_of}
use Rattle.lexauto_dfa.specs.Parts.{start, states}
use Rattle.lexauto_dfa.specs.declared.dfa.Dfa.{Dfa}
use Rattle.lexauto_dfa.specs.declared.dfa.Parts.{Parts}
use Rattle.lexscan.specs.declared.token.Token.{Token}
use Rattle.lexlook_suites.specs.Marking.{Adds, AreNone, IsSized}
use Rattle.lexlook_suites.specs.Turns.{AreMarks, TurnBegins, TurnComesTo, TurnGoesBy}
use Rattle.lexlook_suites.specs.Walks.{ComesTo, GoesBy}
use Rattle.lexlook_suites.specs.declared.marks.Marks.{Marks}
use Rattle.lexlook_suites.proofs.Walked.{moved, only_left}

-- a condition that there is not starts in the dead state
pub no_start : (d : Dfa) (c : ℕ) (line : Bool) → length d.parts.starts.items ≤ c → start_of d c line ≡ 0
no_start d c true past = let e = d.lawful.lines in get_or_past d.parts.line_starts.items c 0 (omega (arith, past, e))
no_start d c false past = get_or_past d.parts.starts.items c 0 past

-- ---- a turn more

module _ (p : Parts) (x : List ℕ) (from : ℕ) (t : Token) (ts : List Token) where
  comes_to_split : (q at c : ℕ) → TurnBegins from (t ∷ ts) at c → ComesTo p (start p c (at_line_start x at)) (drop at x) q → ComesTo p (start p t.condition (at_line_start x from)) (drop from x) q ⊎ TurnComesTo p x t.end ts q
  comes_to_split q at c (inl here) h = inl (subst (λ (d : ℕ). ComesTo p (start p d (at_line_start x from)) (drop from x) q) here.1 (subst (λ (a : ℕ). ComesTo p (start p c (at_line_start x a)) (drop a x) q) here.0 h))
  comes_to_split q at c (inr later) h = inr (at, c, later, h)

  pub turn_comes : (q : ℕ) → TurnComesTo p x from (t ∷ ts) q ↔ (ComesTo p (start p t.condition (at_line_start x from)) (drop from x) q ⊎ TurnComesTo p x t.end ts q)
  turn_comes q = (
    λ h. comes_to_split q h.0 h.1 h.2 h.3,
    λ h. elim h [
      | inl here ↦ (from, t.condition, inl (refl, refl), here)
      | inr later ↦ (later.0, later.1, inr later.2, later.3)
    ],
  )

  goes_by_split : (q b at c : ℕ) → TurnBegins from (t ∷ ts) at c → GoesBy p (start p c (at_line_start x at)) (drop at x) q b → GoesBy p (start p t.condition (at_line_start x from)) (drop from x) q b ⊎ TurnGoesBy p x t.end ts q b
  goes_by_split q b at c (inl here) h = inl (subst (λ (d : ℕ). GoesBy p (start p d (at_line_start x from)) (drop from x) q b) here.1 (subst (λ (a : ℕ). GoesBy p (start p c (at_line_start x a)) (drop a x) q b) here.0 h))
  goes_by_split q b at c (inr later) h = inr (at, c, later, h)

  pub turn_goes : (q b : ℕ) → TurnGoesBy p x from (t ∷ ts) q b ↔ (GoesBy p (start p t.condition (at_line_start x from)) (drop from x) q b ⊎ TurnGoesBy p x t.end ts q b)
  turn_goes q b = (
    λ h. goes_by_split q b h.0 h.1 h.2 h.3,
    λ h. elim h [
      | inl here ↦ (from, t.condition, inl (refl, refl), here)
      | inr later ↦ (later.0, later.1, inr later.2, later.3)
    ],
  )

-- What is marked, with what the turns that are left go through, is what was marked, with what all turns do.
pub record Turning (p : Parts) (x : List ℕ) (us : List Token) (old m : Marks) (from : ℕ) (left : List Token) : Type 0 where
  pub size : IsSized (states p) m
  pub visited : (q : ℕ) → q < states p → ((flag m.states.items q ≡ true) ⊎ TurnComesTo p x from left q) ↔ ((flag old.states.items q ≡ true) ⊎ TurnComesTo p x 0 us q)
  pub taken : (q b : ℕ) → q < states p → b < 256 → ((flag m.bytes.items (256 * q + b) ≡ true) ⊎ TurnGoesBy p x from left q b) ↔ ((flag old.bytes.items (256 * q + b) ≡ true) ⊎ TurnGoesBy p x 0 us q b)

not_marked : (b : Bool) (A Z : Type 0) → b ≡ false → (A ↔ ((b ≡ true) ⊎ Z)) → (A ↔ Z)
not_marked b A Z e h = (λ a. elim (h.0 a) [ inl t ↦ absurd (let f = e in cc) | inr z ↦ z ], λ z. h.1 (inr z))

module _ (p : Parts) (x : List ℕ) (us : List Token) (old : Marks) where
  pub turning_start : IsSized (states p) old → Turning p x us old old 0 us
  turning_start size = record {
    size = size;
    visited = λ q low. (λ h. h, λ h. h);
    taken = λ q b low small. (λ h. h, λ h. h);
  }

  pub turning_on : (m one : Marks) (from : ℕ) (t : Token) (ts : List Token) → Turning p x us old m from (t ∷ ts)
      → Adds (states p) m one (ComesTo p (start p t.condition (at_line_start x from)) (drop from x)) (GoesBy p (start p t.condition (at_line_start x from)) (drop from x)) → Turning p x us old one t.end ts
  turning_on m one from t ts h added = record {
    size = added.size;
    visited = λ q low. moved _ _ _ _ _ _ (added.states q low) (turn_comes p x from t ts q) (h.visited q low);
    taken = λ q b low small. moved _ _ _ _ _ _ (added.bytes q b low small) (turn_goes p x from t ts q b) (h.taken q b low small);
  }

  no_turn_comes : (from q : ℕ) → TurnComesTo p x from [] q → ⊥
  no_turn_comes from q h = h.2

  no_turn_goes : (from q b : ℕ) → TurnGoesBy p x from [] q b → ⊥
  no_turn_goes from q b h = h.2

  pub turned_all : (m : Marks) (from : ℕ) (left : List Token) → left ≡ [] → Turning p x us old m from left → Adds (states p) old m (TurnComesTo p x 0 us) (TurnGoesBy p x 0 us)
  turned_all m from left is h =
      let g = subst (λ (l : List Token). Turning p x us old m from l) is h in
      record {
        size = g.size;
        states = λ q low. only_left _ _ _ (no_turn_comes from q) (g.visited q low);
        bytes = λ q b low small. only_left _ _ _ (no_turn_goes from q b) (g.taken q b low small);
      }

  -- where nothing was marked
  pub turned_none : (m : Marks) → AreNone (states p) old → Adds (states p) old m (TurnComesTo p x 0 us) (TurnGoesBy p x 0 us) → AreMarks p x us m
  turned_none m none added = record {
    size = added.size;
    visited = λ q low. not_marked _ _ _ (none.states q) (added.states q low);
    taken = λ q b low small. not_marked _ _ _ (none.bytes q b) (added.bytes q b low small);
  }
