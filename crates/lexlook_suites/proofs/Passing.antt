-- Walks of which all is marked.
use Rattle.std.proofs.Common.{◌≡◌, ◌⊎◌, ◌↔◌, ℕ, List, ◌∷◌, drop, inl, inr, sym, ap, subst}
use Rattle.lex_semantics.specs.Text.{Among}
use Rattle.lexauto_dfa.specs.Parts.{next, states}
use Rattle.lexauto_dfa.specs.declared.dfa.Parts.{Parts}
use Rattle.lexscan_window.specs.declared.memo.Mark.{Mark}
use Rattle.lexscan_window.specs.Memos.{unmarked}
use Rattle.lexlook_suites.specs.Marking.{Adds}
use Rattle.lexlook_suites.specs.Passed.{ArePassed, IsPassed}
use Rattle.lexlook_suites.specs.Walks.{ComesTo, GoesBy}
use Rattle.lexlook_suites.specs.declared.marks.Marks.{Marks}
use Rattle.lexlook_suites.proofs.Walked.{Walking, comes_dead, goes_dead}

module _ (p : Parts) where
  -- more marks
  pub passed_more : (m one : Marks) (V : ℕ → Type 0) (W : ℕ → ℕ → Type 0) (s : ℕ) (w : List ℕ) → Adds (states p) m one V W → IsPassed p m s w → IsPassed p one s w
  passed_more m one V W s w added h = record {
    visited = λ q low c. (added.states q low).1 (inl (h.visited q low c));
    taken = λ q b low small g. (added.bytes q b low small).1 (inl (h.taken q b low small g));
  }

  pub all_passed_more : (m one : Marks) (V : ℕ → Type 0) (W : ℕ → ℕ → Type 0) (x : List ℕ) (ks : List Mark) → Adds (states p) m one V W → ArePassed p m x ks → ArePassed p one x ks
  all_passed_more m one V W x ks added h k a = passed_more m one V W k.state (drop k.place x) added (h k a)

  -- what a walk added
  pub passed_now : (m one : Marks) (s : ℕ) (w : List ℕ) → Adds (states p) m one (ComesTo p s w) (GoesBy p s w) → IsPassed p one s w
  passed_now m one s w added = record {
    visited = λ q low c. (added.states q low).1 (inr c);
    taken = λ q b low small g. (added.bytes q b low small).1 (inr g);
  }

  -- a byte further on
  pub passed_next : (m : Marks) (s b t : ℕ) (w : List ℕ) → t ≡ next p s b → IsPassed p m s (b ∷ w) → IsPassed p m t w
  passed_next m s b t w is h = subst (λ u. IsPassed p m u w) (sym is) (record {
    visited = λ q low c. h.visited q low (b ∷ c.0, c.1, ap (λ l. b ∷ l) c.2, c.3, c.4);
    taken = λ q d low small g. h.taken q d low small (b ∷ g.0, g.1, ap (λ l. b ∷ l) g.2, g.3, g.4);
  })

  -- the dead state
  passed_dead : (m : Marks) (w : List ℕ) → ((b : ℕ) → next p 0 b ≡ 0) → IsPassed p m 0 w
  passed_dead m w dead = record {
    visited = λ q low c. absurd (comes_dead p dead w q c);
    taken = λ q b low small g. absurd (goes_dead p dead w q b g);
  }

  -- one is put among the others, and the table may be laid out again
  pub passed_put : (m : Marks) (x : List ℕ) (ks ks' : List Mark) (new : Mark) → ArePassed p m x ks → ((k : Mark) → Among ks' k → Among ks k ⊎ (k ≡ new)) → IsPassed p m new.state (drop new.place x) → ArePassed p m x ks'
  passed_put m x ks ks' new h put is k a = elim (put k a) [
    | inl old ↦ h k old
    | inr same ↦ subst (λ (j : Mark). IsPassed p m j.state (drop j.place x)) (sym same) is
  ]

  pub passed_fit : (m : Marks) (x : List ℕ) (ks ks' : List Mark) → ((b : ℕ) → next p 0 b ≡ 0) → ArePassed p m x ks → ((k : Mark) → Among ks' k → Among ks k ⊎ (k ≡ unmarked)) → ArePassed p m x ks'
  passed_fit m x ks ks' dead h fit = passed_put m x ks ks' unmarked h fit (passed_dead m (drop 0 x) dead)

  -- a walk that comes to where all is marked
  module _ (old : Marks) (start : ℕ) (text : List ℕ) where
    pub walked_passed : (m : Marks) (s : ℕ) (w : List ℕ) → Walking p (states p) old m start text s w → IsPassed p m s w → Adds (states p) old m (ComesTo p start text) (GoesBy p start text)
    walked_passed m s w h is = record {
      size = h.size;
      states = λ q low. known _ _ _ (is.visited q low) (h.states q low);
      bytes = λ q b low small. known _ _ _ (is.taken q b low small) (h.bytes q b low small);
    }
      where
        known : (A X Z : Type 0) → (X → A) → ((A ⊎ X) ↔ Z) → (A ↔ Z)
        known A X Z has all = (λ a. all.0 (inl a), λ z. elim (all.1 z) [ inl a ↦ a | inr x ↦ has x ])
