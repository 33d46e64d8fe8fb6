use Rattle.lexspec.specs.Views.{spec_of, skipped_in}
use Rattle.lexkit.proofs.Refusing.{made_of_text}
use Rattle.lexkit.proofs.making.generate.Goals as goal

pub returns : goal.returns
returns c =
    made_of_text c.args.options c.args.text.now (spec_of c.in_ok-spec.spec) (skipped_in c.in_ok-spec.spec) c.in_ok-spec.ensures.spells c.in_ok-spec.ensures.skipped c.generate_by.result c.generate_by.ensures
