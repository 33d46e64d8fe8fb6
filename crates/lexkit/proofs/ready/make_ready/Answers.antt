use Rattle.lexspec.specs.Views.{spec_of, skipped_in}
use Rattle.lexkit.proofs.Refusing.{ready_of_text}
use Rattle.lexkit.proofs.ready.make_ready.Goals as goal

pub returns : goal.returns
returns c =
    ready_of_text c.args.options c.args.text.now (spec_of c.in_ok-spec.spec) (skipped_in c.in_ok-spec.spec) c.in_ok-spec.ensures.spells c.in_ok-spec.ensures.skipped c.ready_of.result c.ready_of.ensures
