use Rattle.std.proofs.lemmas.Grind.{common_steps}
use Rattle.std.proofs.Common.{◌≡◌, [], sym, subst, arith}
use Rattle.lexscan_window.specs.declared.error.RunError.TheVariants.{TooManyReads, Stack}
use Rattle.lexscan.specs.Pushes.{Fed}
use Rattle.lexscan.proofs.Pushing as Push
use Rattle.lexscan.proofs.push.PushScanner.finish.Goals as goal

pub returns-in-Some-clause-finished : goal.returns-in-Some-clause-finished
returns-in-Some-clause-finished g c =
    let s = c.args.self.now in ([], g.met.K.Sink.wrote_none _, λ fed out h. Push.end_runs (g.M.Machine.machine s.machine) fed out s.scan.state s.waiting.items h c.in-Some.status c.in-Some.is)

too_many : TooManyReads ≡ Stack → ⊥
too_many e = cc

pub returns-in_default-count_with-clause-finished : goal.returns-in_default-count_with-clause-finished
returns-in_default-count_with-clause-finished g c =
    let s = c.args.self.now in ([], g.met.K.Sink.wrote_none _, λ fed out h text. (Push.end_first (g.M.Machine.machine s.machine) fed out s.scan.state s.waiting.items h text, λ e. absurd (too_many e)))

pub scan_to_end-requires-clause-paused : goal.scan_to_end-requires-clause-paused
scan_to_end-requires-clause-paused g c = record {
  going = grind (arith, common_steps);
  reading = grind (arith, common_steps);
  kept = grind (arith, common_steps);
  reachable = (let s = c.args.self.now in Push.standing_limit (g.M.Machine.machine s.machine) s.scan.state _ _ (s.reachable c.if-self.false));
}

pub returns-clause-finished : goal.returns-clause-finished
returns-clause-finished g c =
    let s = c.args.self.now in
    let M = g.M.Machine.machine s.machine in
    let k = c.scan_to_end.ensures.finished in (k.0, k.1, λ fed out h. k.2 fed out (subst (Fed M fed out _) (sym c.deref.ensures.value) (Push.fed_limit M fed out s.scan.state s.waiting.items _ _ h)))

pub returns-clause-failed : goal.returns-clause-failed
returns-clause-failed g c = Push.failed_by c.scan_to_end.result _ c.scan_to_end.ensures.left.failed c.scan_to_end.ensures.sink.too_many
