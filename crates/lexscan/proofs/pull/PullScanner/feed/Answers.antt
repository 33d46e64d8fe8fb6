use Rattle.std.proofs.Common.{drop, arith}
use Rattle.lex_machine.proofs.Growing.{is_text_from}
use Rattle.lexscan.proofs.Pushing as Push
use Rattle.lexscan.proofs.Pulling as Pull
use Rattle.lexscan.proofs.pull.PullScanner.feed.Goals as goal

pub returns-in-Some-clause-told : goal.returns-in-Some-clause-told
returns-in-Some-clause-told g c fed tokens untold h =
    let s = c.args.self.now in
    Pull.piece_late (g.M.Machine.machine s.machine) fed c.args.piece.now tokens s.scan.state (drop s.from s.waiting.items) h (is_text_from c.args.piece.now (λ k. omega (arith, c.type_inv.piece k))) (Pull.has_ended s.scan.state.ended _ c.in-Some.is)

pub invariant_of-self-3-clause-reachable : goal.invariant_of-self-3-clause-reachable
invariant_of-self-3-clause-reachable g c works = let s = c.args.self.now in Push.standing_limit (g.M.Machine.machine s.machine) s.scan.state _ _ (s.reachable works)

pub invariant_of-self-3-clause-asking_more : goal.invariant_of-self-3-clause-asking_more
invariant_of-self-3-clause-asking_more g c =
    let s = c.args.self.now in
    Pull.asking_fed (g.M.Machine.machine s.machine) (g.M.Machine.states s.machine) s.scan.state (drop s.from s.waiting.items) c.args.piece.now (drop c.close_up.new.from c.extend_from_slice.new.self.items) s.asking c.walk_on-asking.result s.inside
    (Pull.waits_with c.close_up.new.waiting.items c.args.piece.now c.extend_from_slice.new.self.items (drop s.from s.waiting.items) c.close_up.new.from c.close_up.ensures.inside c.in-Ok.ensures.items c.close_up.ensures.bytes) s.asking_more c.walk_on-asking.ensures.known c.walk_on-asking.ensures.walked

pub returns-clause-told : goal.returns-clause-told
returns-clause-told g c fed tokens untold h =
    let s = c.args.self.now in
    Pull.piece_more (g.M.Machine.machine s.machine) fed c.args.piece.now tokens s.scan.state (drop s.from s.waiting.items) (drop c.close_up.new.from c.extend_from_slice.new.self.items) _ _ h (is_text_from c.args.piece.now (λ k. omega (arith, c.type_inv.piece k))) c.in-None.is
    (Pull.waits_with c.close_up.new.waiting.items c.args.piece.now c.extend_from_slice.new.self.items (drop s.from s.waiting.items) c.close_up.new.from c.close_up.ensures.inside c.in-Ok.ensures.items c.close_up.ensures.bytes) (omega (arith, c.in-Some-count_with.ensures.some.0))
