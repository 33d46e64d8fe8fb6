use Rattle.lexscan_matching.proofs.Limiting.{known_keeper}
use Rattle.lexscan.proofs.Turning.{for_any}
use Rattle.lexscan.proofs.scan.Scan.turn_on.Goals as goal

pub returns-then-rejects : goal.returns-then-rejects
returns-then-rejects g c =
    let h = c.turn_with_reject.ensures in
    record {
      same = h.same;
      handed_on = h.handed_on;
      goes_on = h.goes_on;
      counts = h.counts;
      failed = h.failed;
      refused = h.refused;
      too_many = h.too_many;
      limit = known_keeper (g.M.Machine.machine c.args.machine.now) _ _ _ _ _ _ (λ _. c.rejects.ensures.yes c.if-rejects.true) h.limit;
      next = h.next;
    }

pub returns-then-has_backlog : goal.returns-then-has_backlog
returns-then-has_backlog g c = for_any (g.M.Machine.machine c.args.machine.now) _ _ _ _ _ (λ none. absurd none) c.turn_over_backlog.ensures

pub returns-else-has_backlog : goal.returns-else-has_backlog
returns-else-has_backlog g c = for_any (g.M.Machine.machine c.args.machine.now) _ _ _ _ _ (λ none. absurd none) c.turn_without_reject.ensures
