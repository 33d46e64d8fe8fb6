-- Walks over bytes that are held, and what is known of where they lead.
use Rattle.std.specs.Prelude.{◌≡◌, ℕ, ◌+◌, ◌-◌, ◌≤◌, ◌<◌, ◌==◌, Bool, true, List, [], ◌∷◌, length, take, drop, if◌then◌else◌}
use Rattle.std.specs.Coded.{×_prop, le_prop}
use Rattle.std.proofs.Props.{props}
use Rattle.lex_semantics.specs.Text.{Among}
use Rattle.lex_semantics.specs.Machine.{Machine, walk}
use Rattle.lex_machine.specs.Quiets.{NoneFits}
use Rattle.lexscan_window.specs.declared.cell.Cell.{Cell}
use Rattle.lexscan_window.specs.declared.known_walk.KnownWalk.{KnownWalk}
use Rattle.lexscan_window.specs.declared.memo.Mark.{Mark}
use Rattle.lexscan_window.specs.declared.state.Reading.{Reading}

-- The walk from a state over these bytes comes to no state where a rule fits, and asks for none that follows them; or
-- it asks for the end there, where that is known to be the end.
abbrev pub Barren : Machine → Bool → ℕ → List ℕ → Type 0
Barren M at_end s [] = M.goes_on s ≡ true → at_end ≡ true
Barren M at_end s (b ∷ w) = M.goes_on s ≡ true → NoneFits M (M.next s b) × Barren M at_end (M.next s b) w

-- The walk from a state goes over all of these bytes, to a last state, over the one before it.
abbrev pub GoesOver : Machine → ℕ → List ℕ → ℕ → ℕ → Type 0
GoesOver M s w last before =
    (last ≡ walk M s w)
    × (1 ≤ length w → before ≡ walk M s (take (length w - 1) w))
    × ((i : ℕ) → 1 ≤ i → i < length w → M.goes_on (walk M s (take i w)) ≡ true)

-- a mark that a walk from the state leads to no match
abbrev pub silent : ℕ → ℕ → Mark
silent place s = record { place = place; state = s; count = 0; last = s; before = s }

-- the mark of the dead state at the first place
abbrev pub unmarked : Mark
unmarked = silent 0 0

-- the place of which a cell tells
abbrev pub cell_place : Cell → ℕ
cell_place c = c.place

-- a state at the place of a cell
abbrev pub mark_at : Cell → ℕ → Mark
mark_at c s = silent (cell_place c) s

-- the marks of a cell
abbrev pub marks_of : Cell → List Mark
marks_of c = mark_at c c.first ∷ mark_at c c.second ∷ mark_at c c.third ∷ mark_at c c.fourth ∷ []

-- the mark of a walk that leads to a match, or none
abbrev pub walk_of : KnownWalk → List Mark
walk_of c =
    if c.count == 0 then []
    else record { place = c.place; state = c.state; count = c.count; last = c.last; before = c.before } ∷ []

-- The walk from the state of a mark over these bytes goes over as many as it says, and is barren from there on.
abbrev pub TellsWalk : Machine → Bool → Mark → List ℕ → Type 0
TellsWalk M at_end m w =
    (m.count ≤ length w) × GoesOver M m.state (take m.count w) m.last m.before
    × Barren M at_end m.last (drop m.count w)

-- So it is over the bytes held from the place of the mark on. The last byte taken is the last of the window.
abbrev pub IsTrueMark : Machine → Reading → Mark → Type 0
IsTrueMark M r m =
    (m.place ≤ r.taken)
    × ((i : ℕ) → m.place + length r.window.bytes ≡ r.taken + i → TellsWalk M r.at_end m (drop i r.window.bytes))

-- Each mark is true.
abbrev pub AreTrue : Machine → Reading → List Mark → Type 0
AreTrue M r ms = (m : Mark) → Among ms m → IsTrueMark M r m

-- There is one proof at most of these, so a type may keep it.
NoneFits-prop : (M : Machine) (s : ℕ) → IsProp (NoneFits M s)
NoneFits-prop M s =
    λ x y. λ k. λ i a n m h. (let none : IsProp ⊥ = Prim.hlevel props in none (x i a n m h) (y i a n m h) k)

Barren-prop : (M : Machine) (at_end : Bool) (s : ℕ) (w : List ℕ) → IsProp (Barren M at_end s w)
Barren-prop M at_end s [] = λ x y. λ k. λ g. (let p : IsProp (at_end ≡ true) = Prim.hlevel props in p) (x g) (y g) k
Barren-prop M at_end s (b ∷ w) =
    λ x y. λ k. λ g. ×_prop (NoneFits-prop M (M.next s b)) (Barren-prop M at_end (M.next s b) w) (x g) (y g) k

GoesOver-prop : (M : Machine) (s : ℕ) (w : List ℕ) (last before : ℕ) → IsProp (GoesOver M s w last before)
GoesOver-prop M s w last before =
    let at_last : IsProp (last ≡ walk M s w) = Prim.hlevel props in
    let one : IsProp (before ≡ walk M s (take (length w - 1) w)) = Prim.hlevel props in
    let at_before : IsProp (1 ≤ length w → before ≡ walk M s (take (length w - 1) w)) =
    λ x y. λ k. λ some. one (x some) (y some) k in
    let each : (i : ℕ) → IsProp (M.goes_on (walk M s (take i w)) ≡ true) = λ i. Prim.hlevel props in
    let live : IsProp ((i : ℕ) → 1 ≤ i → i < length w → M.goes_on (walk M s (take i w)) ≡ true) =
    λ x y. λ k. λ i some lt. each i (x i some lt) (y i some lt) k in
    λ x y. λ k. (at_last x.0 y.0 k, at_before x.1 y.1 k, live x.2 y.2 k)

TellsWalk-prop : (M : Machine) (at_end : Bool) (m : Mark) (w : List ℕ) → IsProp (TellsWalk M at_end m w)
TellsWalk-prop M at_end m w =
    λ x y. λ k. (
      le_prop x.0 y.0 k,
      GoesOver-prop M m.state (take m.count w) m.last m.before x.1 y.1 k,
      Barren-prop M at_end m.last (drop m.count w) x.2 y.2 k,
    )

IsTrueMark-prop : (M : Machine) (r : Reading) (m : Mark) → IsProp (IsTrueMark M r m)
IsTrueMark-prop M r m =
    ×_prop (λ x y. le_prop x y)
    (λ x y. λ k. λ i e. TellsWalk-prop M r.at_end m (drop i r.window.bytes) (x i e) (y i e) k)

pub AreTrue-prop : (M : Machine) (r : Reading) (ms : List Mark) → IsProp (AreTrue M r ms)
AreTrue-prop M r ms = λ x y. λ k. λ m h. IsTrueMark-prop M r m (x m h) (y m h) k
