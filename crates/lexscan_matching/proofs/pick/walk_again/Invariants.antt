use Rattle.std.proofs.Common.{◌≡◌, ◌≤◌, ◌<◌, ◌-◌}
use Rattle.std.specs.Prelude.{IfSome}
use Rattle.lex_semantics.specs.Trail.{falling}
use Rattle.lexscan_matching.specs.Picks.{IsFirst, HasStatements, path_of, state_at}
use Rattle.lexscan_matching.proofs.pick.walk_again.Given as goal

abbrev pub invariant-bytes : goal.invariant-bytes
invariant-bytes g l =
    let M = g.M.Machine.machine l.fn.machine in
    record {
      short : l.len ≤ l.fn.reach;
      state_is : l.state ≡ state_at M l.fn.place l.fn.window.bytes l.len;
      state_known : l.state < g.M.Machine.states l.machine;
      first : IsFirst (falling M 0 (path_of M l.fn.place l.fn.window.bytes l.len)) l.best;
      known : IfSome l.best (λ pick. pick.rule < M.count);
      statements : IfSome l.best (HasStatements M);
      keeps : IfSome l.best (λ pick. pick.keep ≤ l.len);
    }

abbrev pub decreases-bytes : goal.decreases-bytes
decreases-bytes g l = l.fn.reach - l.len
