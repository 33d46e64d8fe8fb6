use Rattle.lexscan.proofs.Stepping.{stands_first}
use Rattle.lexscan.proofs.scanner.Scanner.new.Goals as goal

pub returns-clause-invariant : goal.returns-clause-invariant
returns-clause-invariant g c =
    let e = c.new-5.ensures in
    stands_first (g.M.Machine.machine c.args.machine.now) c.new-5.result e.failed e.reading.held e.reading.taken e.reading.at_end e.place.at e.place.line_start e.place.condition e.stack e.ended
