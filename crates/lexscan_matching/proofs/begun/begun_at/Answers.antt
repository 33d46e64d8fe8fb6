use Rattle.lex_machine.specs.Views.{cut_of}
use Rattle.lexscan_matching.proofs.Beginning.{begins_there}
use Rattle.lexscan_matching.proofs.begun.begun_at.Goals as goal

pub returns : goal.returns
returns g c =
    let begun = c.in_ok-begun.begun in
    let kept = c.in_ok-keep.ensures in
    begins_there (g.M.Machine.machine c.args.machine.now) (g.M.Machine.laws c.args.machine.now) c.args.state c.args.len c.in_ok-keep.keep begun.condition (cut_of begun.cut) c.in_ok-begun.ensures c.requires.some kept.keep kept.short
