-- How far a match looks into an input. (POSIX, lex, Rules in lex: the longest match.)
use Rattle.std.specs.Prelude.{◌≡◌, ℕ, ◌≤◌, ◌<◌, true, false, List, length, take, drop}
use Rattle.lex_semantics.specs.Machine.{Machine, walk}
use Rattle.lex_semantics.specs.Text.{at_line_start}
use Rattle.lextab_packed.specs.FlatViews.{tables_of}
use Rattle.lextab_packed.specs.Machines.{table_machine, table_states}
use Rattle.lexlook_counts.specs.FarWalks.{AreTrueOf}
use Rattle.lexlook_counts.specs.declared.looking.Look.{Look}
use Rattle.lexlook_counts.specs.declared.looking.Looker.{Looker}
use Rattle.lexlook_counts.specs.declared.looking.TurnStart.{TurnStart}

-- From a state on so many of these bytes are looked at: the machine goes on after each of them but the last. It goes on
-- no more after that one, or these are all.
pub record Looks (M : Machine) (s : ℕ) (w : List ℕ) (l : Look) : Type 0 where
  pub inside : l.count ≤ length w
  pub asked : (i : ℕ) → 1 ≤ i → i < l.count → M.goes_on (walk M s (take i w)) ≡ true
  pub stops : l.whole ≡ false → (1 ≤ l.count) × (M.goes_on (walk M s (take l.count w)) ≡ false)
  pub all : l.whole ≡ true → l.count ≡ length w

-- the machine by which it looks
abbrev pub looker_machine : Looker → Machine
looker_machine l = table_machine (tables_of l.machine)

-- The bytes of the input from a place on are held, as far as they were given, and the next turn begins here. What is
-- known of walks over the input is true.
pub record Holds (given : List ℕ) (at : ℕ) (l : Looker) : Type 0 where
  pub inside : l.base ≤ length given
  pub bytes : l.bytes.items ≡ drop l.base given
  pub here : l.at ≡ at
  pub marks : AreTrueOf (looker_machine l) (table_states (tables_of l.machine)) given l.memo

-- they are those of some input
abbrev pub IsHeld : Looker → Type 0
IsHeld l = (given : List ℕ) × (at : ℕ) × Holds given at l

-- A turn that begins here in this condition starts in this state, and these are the bytes given from there on.
pub record Starts (M : Machine) (given : List ℕ) (at condition : ℕ) (t : TurnStart) : Type 0 where
  pub inside : at ≤ length given
  pub first : t.first ≡ M.start condition (at_line_start given at)
  pub bytes : t.bytes.now ≡ drop at given
