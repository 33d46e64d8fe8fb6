use Rattle.std.proofs.Common.{refl}
use Rattle.lexscan.proofs.Pushing as Push
use Rattle.lexscan.proofs.Pulling as Pull
use Rattle.lexscan.proofs.pull.PullScanner.finish.Goals as goal

pub invariant_of-self-2-clause-reachable : goal.invariant_of-self-2-clause-reachable
invariant_of-self-2-clause-reachable g c works = let s = c.args.self.now in Push.standing_limit (g.M.Machine.machine s.machine) s.scan.state _ _ (s.reachable works)

pub returns-clause-told : goal.returns-clause-told
returns-clause-told g c fed tokens h = let s = c.args.self.now in Pull.end_told (g.M.Machine.machine s.machine) fed s.finished tokens s.scan.state _ _ _ c.if-self.false h refl
