use Rattle.lexauto_dfa.proofs.Noting.{alone_in, alone_marks}
use Rattle.lexauto_dfa.proofs.least.marking.note_unless_alone.Goals as goal

pub returns-then-is_alone-clause-marks : goal.returns-then-is_alone-clause-marks
returns-then-is_alone-clause-marks c = alone_marks c.args.blocks.now c.args.state
    (alone_in c.args.blocks.now c.args.state c.requires.arranged c.requires.state (c.is_alone.ensures c.if-is_alone.true))
