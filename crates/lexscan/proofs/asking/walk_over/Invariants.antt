use Rattle.std.proofs.Common.{◌≡◌, ℕ, ◌<◌, ◌≤◌, take, true}
use Rattle.lex_semantics.specs.Machine.{walk}
use Rattle.lexscan.proofs.asking.walk_over.Given as goal

abbrev pub invariant-loop-byte : goal.invariant-loop-byte
invariant-loop-byte g l =
    let M = g.M.Machine.machine l.machine in
    record {
      known : l.state < g.M.Machine.states l.machine;
      walked : l.state ≡ walk M l.first (take l.byte-index l.bytes);
      goes : (i : ℕ) → 1 ≤ i → i ≤ l.byte-index → M.goes_on (walk M l.first (take i l.bytes)) ≡ true;
    }
