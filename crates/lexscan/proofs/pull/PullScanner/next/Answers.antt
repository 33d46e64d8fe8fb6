use Rattle.std.proofs.Common.{drop, Ok, Err, Some, None, sym, ap, subst, ◌∙◌}
use Rattle.lexscan_window.specs.Places.{kept_before}
use Rattle.lexscan.specs.Pushes.{IsAsking}
use Rattle.lexscan.specs.Pulls.{TurnedOver}
use Rattle.lexscan.proofs.Pulling as Pull
use Rattle.lexscan.proofs.pull.PullScanner.next.Goals as goal

pub returns-in-Some-clause-pulled : goal.returns-in-Some-clause-pulled
returns-in-Some-clause-pulled g c fed tokens h =
    let s = c.args.self.now in
    (h, Pull.ended_all (g.M.Machine.machine s.machine) fed s.finished tokens s.scan.state (drop s.from s.waiting.items) c.in-Some.status h c.in-Some.is, Pull.nothing_shown (kept_before s.scan.state))

pub returns-then-wants_more-clause-pulled : goal.returns-then-wants_more-clause-pulled
returns-then-wants_more-clause-pulled g c fed tokens h =
    let s = c.args.self.now in
    let k = c.wants_more.ensures c.if-wants_more.true in
    (Pull.asks_some (g.M.Machine.machine s.machine) (g.M.Machine.laws s.machine) (g.M.Machine.states s.machine) fed s.finished tokens s.scan.state (drop s.from s.waiting.items) s.asking k.1 h k.0 c.in-None.is s.inside s.asking_more, Pull.nothing_shown (kept_before s.scan.state))

pub invariant_of-self-in-Ok-None-clause-reachable : goal.invariant_of-self-in-Ok-None-clause-reachable
invariant_of-self-in-Ok-None-clause-reachable g c works =
    let s = c.args.self.now in
    let t = rw c.in-Ok-None.field-0-is at c.in-Ok-None.ensures.turned in
    Pull.stays_reachable (g.M.Machine.machine s.machine) s.scan.state c.turn_from.new.scan.state t.1.got (s.reachable c.if-self.false) t.1.attempts.4

pub invariant_of-self-in-Ok-None-clause-asking_more : goal.invariant_of-self-in-Ok-None-clause-asking_more
invariant_of-self-in-Ok-None-clause-asking_more g c =
    let M = g.M.Machine.machine c.args.self.now.machine in
    let from = c.turn_from.new.from in
    subst (λ l. IsAsking M (g.M.Machine.states c.args.self.now.machine) c.turn_from.new.scan.state l c.walk_all-self.result) (Pull.to_end c.deref-in-Ok-None.result.now from ∙ ap (drop from) c.deref-in-Ok-None.ensures.value) c.walk_all-self.ensures

pub invariant_of-self-in-Some-matched-clause-reachable : goal.invariant_of-self-in-Some-matched-clause-reachable
invariant_of-self-in-Some-matched-clause-reachable g c works =
    let s = c.args.self.now in
    let t = rw c.in-Ok-Some.field-0-is at c.in-Ok-Some.ensures.turned in
    let v = c.deref.ensures.value in
    let over = subst (λ l. TurnedOver (g.M.Machine.machine s.machine) (drop s.from l) t.0 s.scan c.turn_from.new.scan (Ok (Some c.in-Ok-Some.turn))) v t.1 in
    Pull.still_reachable (g.M.Machine.machine s.machine) (drop s.from s.waiting.items) t.0 s.scan c.turn_from.new.scan c.in-Ok-Some.turn over (s.reachable c.if-self.false)

pub invariant_of-self-in-None-matched-clause-reachable : goal.invariant_of-self-in-None-matched-clause-reachable
invariant_of-self-in-None-matched-clause-reachable g c works =
    let s = c.args.self.now in
    let t = rw c.in-Ok-Some.field-0-is at c.in-Ok-Some.ensures.turned in
    let v = c.deref.ensures.value in
    let over = subst (λ l. TurnedOver (g.M.Machine.machine s.machine) (drop s.from l) t.0 s.scan c.turn_from.new.scan (Ok (Some c.in-Ok-Some.turn))) v t.1 in
    Pull.still_reachable (g.M.Machine.machine s.machine) (drop s.from s.waiting.items) t.0 s.scan c.turn_from.new.scan c.in-Ok-Some.turn over (s.reachable c.if-self.false)

pub unreachable-requires : goal.unreachable-requires
unreachable-requires g c =
    let s = c.args.self.now in
    let t = rw c.in-Ok-Some.field-0-is at c.in-Ok-Some.ensures.turned in
    let v = c.deref.ensures.value in
    let over = subst (λ l. TurnedOver (g.M.Machine.machine s.machine) (drop s.from l) t.0 s.scan c.turn_from.new.scan (Ok (Some c.in-Ok-Some.turn))) v t.1 in
    let k = rw c.in-Went.is at over.attempts in
    Pull.never_none (g.M.Machine.machine s.machine) s.scan.state c.turn_from.new.scan.state over.got over.put (s.reachable c.if-self.false) c.in-None.is k over.none (sym c.matched.ensures.told ∙ c.in-None-matched.is)

pub returns-in-Err-clause-pulled : goal.returns-in-Err-clause-pulled
returns-in-Err-clause-pulled g c fed tokens h =
    let s = c.args.self.now in
    let t = c.in-Err.ensures.turned in
    let v = c.deref.ensures.value in
    let over = subst (λ l. TurnedOver (g.M.Machine.machine s.machine) (drop s.from l) t.0 s.scan c.turn_from.new.scan (Err c.in-Err.e)) v t.1 in
    (Pull.refused_so (g.M.Machine.machine s.machine) fed s.finished tokens s.scan.state c.turn_from.new.scan.state (drop s.from s.waiting.items) over.got t.0 over.put h c.in-None.is over.all over.none over.ending over.max_reads c.in-Err.e over.attempts over.refusals, Pull.nothing_shown (kept_before c.turn_from.new.scan.state))

pub returns-in-Ok-None-clause-pulled : goal.returns-in-Ok-None-clause-pulled
returns-in-Ok-None-clause-pulled g c fed tokens h =
    let s = c.args.self.now in
    let t = rw c.in-Ok-None.field-0-is at c.in-Ok-None.ensures.turned in
    let v = c.deref.ensures.value in
    let over = subst (λ l. TurnedOver (g.M.Machine.machine s.machine) (drop s.from l) t.0 s.scan c.turn_from.new.scan (Ok None)) v t.1 in
    (Pull.wants_piece (g.M.Machine.machine s.machine) fed s.finished tokens s.scan.state c.turn_from.new.scan.state (drop s.from s.waiting.items) over.got t.0 over.put h c.in-None.is over.all over.none over.ending over.max_reads (drop c.turn_from.new.from s.waiting.items) over.attempts.4 over.attempts.1 over.attempts.2 (ap (drop c.turn_from.new.from) (sym v) ∙ t.2 ∙ ap (drop s.from) v), Pull.nothing_shown (kept_before c.turn_from.new.scan.state))

pub returns-in-Some-matched-clause-pulled : goal.returns-in-Some-matched-clause-pulled
returns-in-Some-matched-clause-pulled g c fed tokens h =
    let s = c.args.self.now in
    let t = rw c.in-Ok-Some.field-0-is at c.in-Ok-Some.ensures.turned in
    let v = c.deref.ensures.value in
    let over = subst (λ l. TurnedOver (g.M.Machine.machine s.machine) (drop s.from l) t.0 s.scan c.turn_from.new.scan (Ok (Some c.in-Ok-Some.turn))) v t.1 in
    let M = g.M.Machine.machine s.machine in
    let is = sym c.matched.ensures.told ∙ c.in-Some-matched.is in (
      Pull.token_more M fed s.finished tokens s.scan.state c.turn_from.new.scan.state (drop s.from s.waiting.items) over.got t.0 over.put h c.in-None.is over.all over.none over.ending over.max_reads c.in-Ok-Some.turn over.attempts c.in-Some-matched.matched is (drop c.turn_from.new.from s.waiting.items) (ap (drop c.turn_from.new.from) (sym v) ∙ t.2),
      Pull.token_text M fed s.finished tokens s.scan.state c.turn_from.new.scan.state (drop s.from s.waiting.items) over.got t.0 over.put h c.in-None.is over.all over.none over.ending over.max_reads c.in-Ok-Some.turn over.attempts c.in-Some-matched.matched is,
    )

pub returns-in-Ended-clause-pulled : goal.returns-in-Ended-clause-pulled
returns-in-Ended-clause-pulled g c fed tokens h =
    let s = c.args.self.now in
    let t = rw c.in-Ok-Some.field-0-is at c.in-Ok-Some.ensures.turned in
    let v = c.deref.ensures.value in
    let over = subst (λ l. TurnedOver (g.M.Machine.machine s.machine) (drop s.from l) t.0 s.scan c.turn_from.new.scan (Ok (Some c.in-Ok-Some.turn))) v t.1 in
    let M = g.M.Machine.machine s.machine in
    let k = rw c.in-Ended.is at over.attempts in
    let more = Pull.none_more M fed s.finished tokens s.scan.state c.turn_from.new.scan.state (drop s.from s.waiting.items) over.got t.0 over.put h c.in-None.is over.all over.none over.ending over.max_reads c.in-Ok-Some.turn over.attempts (drop c.turn_from.new.from s.waiting.items) (sym c.matched.ensures.told ∙ c.in-None-matched.is) (ap (drop c.turn_from.new.from) (sym v) ∙ t.2) in
    (more, Pull.ended_all M fed s.finished tokens c.turn_from.new.scan.state (drop c.turn_from.new.from s.waiting.items) c.in-Ended.status more k.0, Pull.nothing_shown (kept_before c.turn_from.new.scan.state))
