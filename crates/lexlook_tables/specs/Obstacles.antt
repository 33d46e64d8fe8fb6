-- What stands against a cut of an input after any of its newlines, and which of several is told. (This project's.)
use Rattle.std.specs.Prelude.{◌≡◌, ℕ, ◌≤◌, ◌<◌, Bool, true, false, cond, List, [], ◌∷◌, ◌++◌, length, get_or, Option, Some, None}
use Rattle.lex_semantics.specs.Text.{IsText, Among}
use Rattle.lex_semantics.specs.Machine.{Machine, walk, state_after}
use Rattle.lexauto_reports.specs.BackWords.{Smaller}
use Rattle.lexlook_tables.specs.Lines.{may_keep_last, is_steady, leaves_line, TakesLine, DiscardsLine}
use Rattle.lexlook_tables.specs.declared.lines.cutting.Obstacle.{Obstacle}
use Rattle.lexlook_tables.specs.declared.lines.cutting.Obstacle.TheVariants.{Unsteady, Crosses, Strays, Copies, Writes}

-- What is looked for stands at places, which are lists of numbers. None stands anywhere; or this one does, and none
-- stands before it: the smaller number at the first difference comes first.
abbrev pub FirstOf : {X : Type 0} → (X → List ℕ → Type 0) → Option X → Type 0
FirstOf P None = (x : _) (k : List ℕ) → P x k → ⊥
FirstOf P (Some x) = (k : List ℕ) × P x k × ((y : _) (l : List ℕ) → P y l → Smaller l k → ⊥)

-- a rule that ends the scan, uses the stack of conditions, or sets a condition and has REJECT: in the order of the
-- rules
abbrev pub UnsteadyRule : Machine → ℕ → List ℕ → Type 0
UnsteadyRule M i k = (i < M.count) × (is_steady (M.statements i) ≡ false) × (k ≡ i ∷ [])

-- a rule that is accepted after a state and a text of one byte or more: shorter texts come first, then the first in
-- byte order
abbrev pub RuleBeyond : Machine → ℕ → ℕ → List ℕ → Type 0
RuleBeyond M s i k =
    (u : List ℕ) × IsText u × (1 ≤ length u) × Among (M.accepts (walk M s u)) i × (k ≡ length u ∷ u ++ i ∷ [])

-- a rule that is accepted beyond the state after a newline, where not each match is discarded that goes on there
abbrev pub CrossingRule : Machine → ℕ → ℕ → ℕ → List ℕ → Type 0
CrossingRule M c s i k = (DiscardsLine M c s → ⊥) × RuleBeyond M s i k

-- a rule that is accepted after a newline, and does not leave the scan in INITIAL: in the order of the rules
abbrev pub StrayingRule : Machine → ℕ → ℕ → ℕ → List ℕ → Type 0
StrayingRule M c s i k =
    Among (M.accepts s) i × (may_keep_last (M.cut i) ≡ true) × (leaves_line c (M.statements i) ≡ false) × (k ≡ i ∷ [])

-- at the newline after a text that leads to the state s: a match that goes on and is not discarded comes first
abbrev pub HindersAt : Machine → ℕ → ℕ → Obstacle → List ℕ → Type 0
HindersAt M c s (Crosses d i) k = (d ≡ c) × (l : List ℕ) × CrossingRule M c (M.next s 10) i l × (k ≡ 0 ∷ l)
HindersAt M c s (Strays d i) k = (d ≡ c) × (l : List ℕ) × StrayingRule M c (M.next s 10) i l × (k ≡ 1 ∷ l)
HindersAt M c s other k = ⊥

-- In a condition the texts before newlines come first: shorter ones first, then those not at the start of a line, then
-- the first in byte order. After them comes a newline that is copied.
abbrev pub HindersIn : Machine → ℕ → Obstacle → List ℕ → Type 0
HindersIn M c (Copies d) k = (d ≡ c) × (1 ≤ c) × (line : Bool) × (TakesLine M c line → ⊥) × (k ≡ 1 ∷ [])
HindersIn M c other k =
    (line : Bool) × (w : List ℕ) × IsText w × (l : List ℕ) × HindersAt M c (state_after M c line w) other l
    × (k ≡ 0 ∷ length w ∷ cond line 1 0 ∷ w ++ l)

-- An obstacle stands at this place. Rules come first, then the conditions one by one, and the end of the input last.
abbrev pub Hinders : Machine → Obstacle → List ℕ → Type 0
Hinders M (Unsteady i) k = (l : List ℕ) × UnsteadyRule M i l × (k ≡ 0 ∷ l)
Hinders M Writes k = ((M.ending 0).print ≡ [] → ⊥) × (k ≡ 2 ∷ [])
Hinders M other k = (c : ℕ) × (c < M.conditions) × (l : List ℕ) × HindersIn M c other l × (k ≡ 1 ∷ c ∷ l)

-- Names that the code has: a rule that is accepted one byte after a state, in byte order; and what stands at one of
-- these states, in their order.
abbrev pub RuleAfter : Machine → ℕ → ℕ → List ℕ → Type 0
RuleAfter M s i k = (b : ℕ) × (b < 256) × Among (M.accepts (M.next s b)) i × (k ≡ b ∷ i ∷ [])

abbrev pub Along : {X : Type 0} → List ℕ → (ℕ → X → List ℕ → Type 0) → X → List ℕ → Type 0
Along states P x k = (p : ℕ) × (p < length states) × (l : List ℕ) × P (get_or states p 0) x l × (k ≡ p ∷ l)
