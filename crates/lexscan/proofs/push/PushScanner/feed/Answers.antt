use Rattle.std.proofs.lemmas.Grind.{common_steps}
use Rattle.std.proofs.Common.{Some, ◌≡◌, ◌+◌, [], ◌++◌, length, ap, ◌∙◌, arith}
use Rattle.lexscan_window.specs.declared.error.RunError.TheVariants.{TooManyReads, OutOfMemory, Stack}
use Rattle.lexscan.specs.Pushes.{IsAsking}
use Rattle.lexscan.proofs.Pushing as Push
use Rattle.lexscan.proofs.push.PushScanner.feed.Goals as goal

pub returns-in-Some-clause-fed : goal.returns-in-Some-clause-fed
returns-in-Some-clause-fed g c =
    let s = c.args.self.now in ([], g.met.K.Sink.wrote_none _, λ fed out h. Push.fed_over (g.M.Machine.machine s.machine) fed out s.scan.state s.waiting.items h c.args.piece.now c.in-Some.status c.in-Some.is)

too_many : TooManyReads ≡ Stack → ⊥
too_many e = cc

no_memory : OutOfMemory ≡ Stack → ⊥
no_memory e = cc

pub returns-in_default-clause-fed : goal.returns-in_default-clause-fed
returns-in_default-clause-fed g c =
    let s = c.args.self.now in ([], g.met.K.Sink.wrote_none _, λ fed out h. (Push.fed_first (g.M.Machine.machine s.machine) fed out s.scan.state s.waiting.items h c.args.piece.now, λ e. absurd (too_many e)))

pub returns-in-Err-clause-fed : goal.returns-in-Err-clause-fed
returns-in-Err-clause-fed g c =
    let s = c.args.self.now in ([], g.met.K.Sink.wrote_none _, λ fed out h. (Push.fed_first (g.M.Machine.machine s.machine) fed out s.scan.state s.waiting.items h c.args.piece.now, λ e. absurd (no_memory e)))

pub scan_waiting-requires-clause-paused : goal.scan_waiting-requires-clause-paused
scan_waiting-requires-clause-paused g c = record {
  going = grind (arith, common_steps);
  reading = grind (arith, common_steps);
  kept = grind (arith, common_steps);
  reachable = (let s = c.args.self.now in Push.standing_limit (g.M.Machine.machine s.machine) s.scan.state _ _ (s.reachable c.if-self.false));
}

pub returns-clause-fed : goal.returns-clause-fed
returns-clause-fed g c =
    let s = c.args.self.now in
    let M = g.M.Machine.machine s.machine in
    let k = c.scan_waiting.ensures.fed in
    (k.0, k.1, λ fed out h. k.2 _ out (Push.fed_more M fed out _ s.waiting.items c.args.piece.now _ (Push.fed_limit M fed out s.scan.state s.waiting.items _ _ h) (ap (λ l. l ++ c.args.piece.now) c.reserve.ensures.items)))

pub returns-in-Some-walk_on-clause-fed : goal.returns-in-Some-walk_on-clause-fed
returns-in-Some-walk_on-clause-fed g c =
    let s = c.args.self.now in
    let M = g.M.Machine.machine s.machine in
    let now = c.in-Some-walk_on.ensures in
    let items = c.in-Ok-extend_from_slice.ensures.items ∙ ap (λ l. l ++ c.args.piece.now) c.reserve.ensures.items in
    let on : IsAsking M (g.M.Machine.states s.machine) s.scan.state c.extend_from_slice.new.self.items (Some c.in-Some-walk_on.last) =
    Push.asking_on M (g.M.Machine.states s.machine) s.scan.state s.waiting.items c.args.piece.now c.extend_from_slice.new.self.items s.asking c.in-Some-walk_on.last s.inside items s.asking_more now.known now.walked in (
      [],
      g.met.K.Sink.wrote_none _,
      λ fed out h. Push.fed_quiet M (g.M.Machine.laws s.machine) (g.M.Machine.states s.machine) fed out s.scan.state s.waiting.items c.args.piece.now c.extend_from_slice.new.self.items c.in-Some-walk_on.last h items c.in-None.is s.inside on,
    )

pub invariant_of-self-in-Some-walk_on-clause-asking_more : goal.invariant_of-self-in-Some-walk_on-clause-asking_more
invariant_of-self-in-Some-walk_on-clause-asking_more g c =
    let s = c.args.self.now in
    let now = c.in-Some-walk_on.ensures in
    let items = c.in-Ok-extend_from_slice.ensures.items ∙ ap (λ l. l ++ c.args.piece.now) c.reserve.ensures.items in
    Push.asking_on (g.M.Machine.machine s.machine) (g.M.Machine.states s.machine) s.scan.state s.waiting.items c.args.piece.now c.extend_from_slice.new.self.items s.asking c.in-Some-walk_on.last s.inside items s.asking_more now.known now.walked

pub returns-clause-failed : goal.returns-clause-failed
returns-clause-failed g c =
    let s = c.args.self.now in
    Push.failed_by_piece c.scan_waiting.result (length s.waiting.items + length c.args.piece.now) _ _ _ c.scan_waiting.ensures.left.room (grind (arith, common_steps)) c.scan_waiting.ensures.left.next.failed c.scan_waiting.ensures.sink.too_many
