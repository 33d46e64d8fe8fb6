use Rattle.lexlook_suites.proofs.Turned.{turned_none}
use Rattle.lexlook_suites.proofs.turns.marks_of.Goals as goal

pub returns : goal.returns
returns c = turned_none c.args.dfa.now.parts c.args.input.now c.args.tokens.now c.in_ok-marks.marks c.turns.new.self c.in_ok-marks.ensures c.turns.ensures
