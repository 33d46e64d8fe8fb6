use Rattle.std.proofs.Common.{◌≡◌, ◌<◌, ℕ, take}
use Rattle.lex_semantics.specs.Machine.{walk}
use Rattle.lex_semantics.specs.Text.{Among}
use Rattle.lex_semantics.specs.Trail.{trail_from}
use Rattle.lexlook_counts.proofs.given_up.walk_path.Given as goal

-- the states after the bytes so far
abbrev pub invariant-loop-place : goal.invariant-loop-place
invariant-loop-place g l =
    let M = g.M.Machine.machine l.machine in
    record {
      known : l.state < g.M.Machine.states l.machine;
      walked : l.state ≡ walk M l.first (take l.place l.bytes);
      path : l.path.items ≡ trail_from M l.first (take l.place l.bytes);
      all_known : (state : ℕ) → Among l.path.items state → state < g.M.Machine.states l.machine;
    }
