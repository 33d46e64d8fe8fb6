-- What a turn asks for that wants more than the bytes that there are.
use Rattle.std.proofs.Common.{◌≡◌, ℕ, suc, ◌+◌, ◌-◌, ◌≤◌, ◌<◌, List, ◌++◌, length, None, arith}
use Rattle.std.proofs.lemmas.List.{length-append}
use Rattle.lex_semantics.specs.Rules.{Rules}
use Rattle.lex_semantics.specs.Run.{Place, State, Turns}
use Rattle.lex_semantics.specs.Demand.{AsksAt, Asks}
use Rattle.lex_semantics.specs.Scanned.{AfterTurns}
use Rattle.lex_semantics.proofs.After.{last_asks}
use Rattle.lex_semantics.proofs.Prefix.{asks_front}

-- the match asks for each of the bytes g from its place on, and for one more
abbrev pub WantsMore : Rules → List ℕ → Place → Type 0
WantsMore R g p = (p.at ≤ length g) × ((i : ℕ) → p.at + i ≤ length g → AsksAt R g p i)

-- Over each input that goes on from these bytes the turn asks for one answer more.
pub wanted : (R : Rules) (g rest : List ℕ) (p : Place) (r : ℕ) → WantsMore R g p → Asks R (g ++ rest) p r → length g < p.at + r
wanted R g rest p r w asks =
    let i : ℕ = length g - p.at in
    let at : p.at + i ≡ length g = omega (arith, w.0) in
    let fits : p.at + i ≤ length (g ++ rest) = omega (arith, at, length-append g rest) in
    let less : i < r = (asks i).1 (fits, asks_front R g rest p i (omega (arith, at)) (w.1 i (omega (arith, at)))) in
    omega (arith, at, less)

-- And so do the turns with it.
pub wanted_end : (R : Rules) (g : List ℕ) (n : ℕ) (s t : State) (asked : ℕ) → Turns R g n s → s.ended ≡ None → WantsMore R g s.place → AfterTurns R g (suc n) t asked → length g < asked
wanted_end R g n s t asked turns going w after =
    let (before, h, r, asks, is) = last_asks R g n s t asked turns going after in
    let i : ℕ = length g - s.place.at in
    let at : s.place.at + i ≡ length g = omega (arith, w.0) in
    let less : i < r = (asks i).1 (omega (arith, at), w.1 i (omega (arith, at))) in
    omega (arith, at, less, is)
