use Rattle.std.proofs.Common.{◌∙◌}
use Rattle.lexlook_specs.proofs.Joining.{size_is}
use Rattle.lexlook_specs.proofs.picture.classes.size.Goals as goal

pub returns : goal.returns
returns c = c.count.ensures ∙ size_is c.args.row.now c.args.target c.requires
