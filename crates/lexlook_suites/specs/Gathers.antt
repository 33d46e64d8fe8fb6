-- Inputs that are gathered one by one. (Words of proofs.)
use Rattle.std.specs.Prelude.{◌≡◌, ◌≢◌, ℕ, ◌+◌, ◌*◌, ◌<◌, ◌≤◌, ◌⊎◌, true, List, [], length, Option, Some, None}
use Rattle.lex_semantics.specs.Machine.{rules_of_machine}
use Rattle.lex_semantics.specs.Rules.{Rules}
use Rattle.lex_semantics.specs.Text.{flag}
use Rattle.lexauto_dfa.specs.Parts.{conditions, next, start, states}
use Rattle.lexauto_dfa.specs.declared.dfa.Parts.{Parts}
use Rattle.lextab_packed.specs.FlatViews.{tables_of}
use Rattle.lextab_packed.specs.Machines.{table_machine}
use Rattle.lextab_packed.specs.declared.flat.Flat.{Flat}
use Rattle.lexscan.specs.Tokens.{Stopped}
use Rattle.lexscan.specs.declared.token.Token.{Token}
use Rattle.lexscan_window.specs.declared.error.RunError.TheVariants as runs
use Rattle.lexlook_suites.specs.Edges.{goes_to, marked_by}
use Rattle.lexlook_suites.specs.Inputs.{AreInputs, AreMarksOf, IsInputOf}
use Rattle.lexlook_suites.specs.Orders.{byte_at}
use Rattle.lexlook_suites.specs.Texts.{LeadsOver}
use Rattle.lexlook_suites.specs.Trees.{state_at}
use Rattle.lexlook_suites.specs.Walks.{GoesBy}
use Rattle.lexlook_suites.specs.declared.gathering.Gathered.{Gathered}
use Rattle.lexlook_suites.specs.declared.inputs.Input.{Input}
use Rattle.lexlook_suites.specs.declared.marks.Marks.{Marks}
use Rattle.lexlook_suites.specs.declared.trees.Step.{Step}

abbrev pub rules_by : Flat → Rules
rules_by f = rules_of_machine (table_machine (tables_of f))

-- the scan of the text stops where the stack of conditions is at fault
abbrev pub Faults : Rules → List ℕ → Type 0
Faults R x = (us : List Token) × Stopped R x us runs.Stack

-- the text as an input, unless its scan stops
abbrev pub IsScanned : Rules → List ℕ → Option Input → Type 0
IsScanned R x None = Faults R x
IsScanned R x (Some i) = (i.text.items ≡ x) × IsInputOf R i

-- what was marked is marked
abbrev pub Grows : ℕ → Marks → Marks → Type 0
Grows n old new = (q b : ℕ) → q < n → b < 256 → flag old.bytes.items (256 * q + b) ≡ true
    → flag new.bytes.items (256 * q + b) ≡ true

-- inputs, with the marks of their turns
pub record IsGathered (R : Rules) (p : Parts) (g : Gathered) : Type 0 where
  pub inputs : AreInputs R g.inputs.items
  pub marks : AreMarksOf p g.inputs.items g.marks

-- inputs, and no fewer marks than before
pub record Adds (R : Rules) (p : Parts) (old new : Gathered) : Type 0 where
  pub gathered : IsGathered R p new
  pub grows : Grows (states p) old.marks new.marks

-- the text is among them, unless its scan stops: its first turn goes on from the start
abbrev pub HasText : Rules → Parts → Gathered → List ℕ → Type 0
HasText R p g x = Faults R x ⊎ ((q b : ℕ) → q < states p → b < 256 → GoesBy p (start p 0 true) x q b
    → flag g.marks.bytes.items (256 * q + b) ≡ true)

-- one of the inputs goes over the edge from a state by a byte, or the scan of a text that does stops
abbrev pub HasEdge : Rules → Parts → Gathered → ℕ → ℕ → Type 0
HasEdge R p g s b = (goes_to (marked_by g.marks s) (next p s) (next p s b) ≡ true)
    ⊎ ((v : List ℕ) × LeadsOver p s (next p s b) 0 true v × Faults R v)

-- the same of the first n bytes in their order by which a state goes on
abbrev pub HasEdges : Rules → Parts → Gathered → ℕ → ℕ → Type 0
HasEdges R p g s n = (r : ℕ) → r < n → next p s (byte_at r) ≢ 0 → HasEdge R p g s (byte_at r)

-- and of all states from the step at a place on
abbrev pub HasAllEdges : Rules → Parts → Gathered → List Step → ℕ → Type 0
HasAllEdges R p g steps k = (j : ℕ) → k ≤ j → j < length steps → HasEdges R p g (state_at steps j) 256

-- where nothing stands before the texts, and they lead from the start of the first condition at the start of a line
pub record IsFirst (p : Parts) (way : List ℕ) (a : ℕ) : Type 0 where
  pub no_way : way ≡ []
  pub first : a ≡ start p 0 true
  pub condition : 0 < conditions p
