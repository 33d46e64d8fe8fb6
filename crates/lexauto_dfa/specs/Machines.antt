-- A machine of states with the actions of a specification. (This project's.)
use Rattle.std.specs.Prelude.{◌≡◌, ◌<◌, ◌⊎◌, ℕ, Bool, List, cond, ◌+◌, ◌*◌, length, nat_lt, slice_index, Option, option_map, unwrap_or, slice_get}
use Rattle.lex_semantics.specs.Spec.{Spec, Rule, Cut, Whole, statements_at, end_at}
use Rattle.lex_semantics.specs.Text.{IsText}
use Rattle.lex_semantics.specs.Machine.{Machine, state_after}

-- Names that proofs have for the parts of the machine of an automaton (`Automata.machine_in`).
abbrev pub cut_at : Option Rule → Cut
cut_at o = unwrap_or (option_map (λ r. r.cut) o) Whole

abbrev pub machine_with : Spec → (ℕ → Bool → ℕ) → (ℕ → ℕ → ℕ) → (ℕ → List ℕ) → (ℕ → Bool) → Machine
machine_with S start next accepts goes_on = record {
  conditions = length S.conditions;
  count = length S.rules;
  start = start;
  next = next;
  accepts = accepts;
  goes_on = goes_on;
  cut = λ i. cut_at (slice_get S.rules i);
  statements = λ i. statements_at (slice_get S.rules i);
  ending = λ c. end_at (slice_get S.conditions c);
}

-- the state is the dead one, or some word leads to it from some start
abbrev pub IsDeadOrReached : Machine → Spec → ℕ → Type 0
IsDeadOrReached M S p =
    (p ≡ 0) ⊎ ((c : ℕ) × (line_start : Bool) × (w : List ℕ) × (c < length S.conditions) × IsText w
    × (state_after M c line_start w ≡ p))

-- the state after one byte more; any other number leads to the dead state
abbrev pub moving : List ℕ → ℕ → ℕ → ℕ
moving next p b = cond (nat_lt b 256) (slice_index next (p * 256 + b)) 0
