use Rattle.std.proofs.Common.{◌≡◌, ℕ, ◌-◌, ◌<◌, ◌≤◌, List, length, take, drop}
use Rattle.lex_semantics.specs.Machine.{walk}
use Rattle.lexlook_counts.specs.FarWalks.{AreTrueOf}
use Rattle.lexlook_counts.proofs.walking.note.Given as goal

-- the state of the walk, and the marks so far
abbrev pub invariant-bytes : goal.invariant-bytes
invariant-bytes g l =
    let M = g.M.Machine.machine l.machine in
    let states = g.M.Machine.states l.machine in
    record {
      within : l.count ≤ l.walk.seen;
      state_is : l.state ≡ walk M l.first (take l.count l.bytes);
      known : l.state < states;
      marks : (given : List ℕ) → l.place ≤ length given → l.bytes ≡ drop l.place given → AreTrueOf M states given l.fn.memo → AreTrueOf M states given l.memo;
    }

abbrev pub decreases-bytes : goal.decreases-bytes
decreases-bytes g l = l.walk.seen - l.count
