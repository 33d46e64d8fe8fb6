use Rattle.std.proofs.Common.{sym, ◌∙◌}
use Rattle.std.specs.Prelude.{slice_index}
use Rattle.lextab_packed.proofs.Alikes.{zero_at}
use Rattle.lextab_packed.proofs.alike.Spread.new.Goals as goal

pub returns : goal.returns
returns c class_of b lt = zero_at 256 b ∙ sym (zero_at 256 (slice_index class_of b))
