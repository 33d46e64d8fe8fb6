-- What the turns of a scan go through, as they look for their matches. (POSIX, lex, Rules in lex; the words are this
-- project's.)
use Rattle.std.specs.Prelude.{◌≡◌, ℕ, ◌+◌, ◌*◌, ◌<◌, ◌⊎◌, ◌↔◌, true, List, [], ◌∷◌, drop}
use Rattle.lex_semantics.specs.Text.{at_line_start, flag}
use Rattle.lexauto_dfa.specs.Parts.{start, states}
use Rattle.lexauto_dfa.specs.declared.dfa.Parts.{Parts}
use Rattle.lexscan.specs.declared.token.Token.{Token}
use Rattle.lexlook_suites.specs.Marking.{IsSized}
use Rattle.lexlook_suites.specs.Walks.{ComesTo, GoesBy}
use Rattle.lexlook_suites.specs.declared.marks.Marks.{Marks}

-- A turn of these tokens begins at this place and in this condition: the first at `from`, and each later one where the
-- text of the one before ended.
abbrev pub TurnBegins : ℕ → List Token → ℕ → ℕ → Type 0
TurnBegins from [] at c = ⊥
TurnBegins from (t ∷ ts) at c = ((at ≡ from) × (c ≡ t.condition)) ⊎ TurnBegins t.end ts at c

-- a turn of an input comes to the state
abbrev pub TurnComesTo : Parts → List ℕ → ℕ → List Token → ℕ → Type 0
TurnComesTo p x from us q =
    (at : ℕ) × (c : ℕ) × TurnBegins from us at c × ComesTo p (start p c (at_line_start x at)) (drop at x) q

-- a turn of an input goes on from the state by the byte
abbrev pub TurnGoesBy : Parts → List ℕ → ℕ → List Token → ℕ → ℕ → Type 0
TurnGoesBy p x from us q b =
    (at : ℕ) × (c : ℕ) × TurnBegins from us at c × GoesBy p (start p c (at_line_start x at)) (drop at x) q b

-- exactly what the turns of a scan over the input go through is marked
pub record AreMarks (p : Parts) (x : List ℕ) (us : List Token) (m : Marks) : Type 0 where
  pub size : IsSized (states p) m
  pub visited : (q : ℕ) → q < states p → (flag m.states.items q ≡ true) ↔ TurnComesTo p x 0 us q
  pub taken : (q b : ℕ) → q < states p → b < 256
      → (flag m.bytes.items (256 * q + b) ≡ true) ↔ TurnGoesBy p x 0 us q b
