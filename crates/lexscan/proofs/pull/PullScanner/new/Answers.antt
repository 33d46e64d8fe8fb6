use Rattle.std.proofs.Common.{[], refl, sym}
use Rattle.lexscan.proofs.Stepping.{stands_first}
use Rattle.lexscan.proofs.Pulling.{nothing_shown, not_ended}
use Rattle.lexscan_window.specs.Places.{kept_before}
use Rattle.lexscan.proofs.pull.PullScanner.new.Goals as goal

pub invariant_of-result-clause-reachable : goal.invariant_of-result-clause-reachable
invariant_of-result-clause-reachable g c _ denied =
    let e = c.new-3.ensures in
    denied 0 [] [] (stands_first (g.M.Machine.machine c.args.machine) c.new-3.result e.failed e.reading.held e.reading.taken e.reading.at_end e.place.at e.place.line_start e.place.condition e.stack e.ended)

pub returns-clause-text : goal.returns-clause-text
returns-clause-text g c = nothing_shown (kept_before c.new-3.result)

pub returns-clause-told : goal.returns-clause-told
returns-clause-told g c =
    let e = c.new-3.ensures in
    record {
      turns = 0;
      given = [];
      left = [];
      out = [];
      text = tt;
      invariant = stands_first (g.M.Machine.machine c.args.machine) c.new-3.result e.failed e.reading.held e.reading.taken e.reading.at_end e.place.at e.place.line_start e.place.condition e.stack e.ended;
      all = refl;
      ending = λ is. absurd (not_ended c.new-3.result.reading.at_end e.reading.at_end is);
      waits = λ _. (sym c.new-5.ensures.items, e.reading.max_reads);
      tokens_are = λ x k. refl;
    }
