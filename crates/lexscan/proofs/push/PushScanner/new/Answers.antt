use Rattle.std.proofs.Common.{[], refl, sym}
use Rattle.lexscan.proofs.Stepping.{stands_first}
use Rattle.lexscan.proofs.push.PushScanner.new.Goals as goal

pub invariant_of-result-clause-reachable : goal.invariant_of-result-clause-reachable
invariant_of-result-clause-reachable g c _ denied =
    let e = c.new-3.ensures in
    denied 0 [] [] (stands_first (g.M.Machine.machine c.args.machine) c.new-3.result e.failed e.reading.held e.reading.taken e.reading.at_end e.place.at e.place.line_start e.place.condition e.stack e.ended)

pub returns-clause-fed : goal.returns-clause-fed
returns-clause-fed g c =
    let e = c.new-3.ensures in
    record {
      turns = 0;
      given = [];
      left = [];
      invariant = stands_first (g.M.Machine.machine c.args.machine) c.new-3.result e.failed e.reading.held e.reading.taken e.reading.at_end e.place.at e.place.line_start e.place.condition e.stack e.ended;
      reading = e.reading.at_end;
      all = refl;
      waits = λ _. sym c.new-4.ensures.items;
    }
