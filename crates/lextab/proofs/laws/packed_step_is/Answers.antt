use Rattle.std.proofs.Common.{◌∙◌, ◌≡◌, length, arith}
use Rattle.lextab.specs.Columns.{packing_in}
use Rattle.lextab.proofs.Columns.{steps_as_packed}
use Rattle.lextab.proofs.Steps.{goes_as}
use Rattle.lextab.proofs.Tabled.{packing_of}
use Rattle.lextab.proofs.laws.packed_step_is.Goals as goal

pub returns : goal.returns
returns c n go t x dead s b h k =
    let rows : length t.rows ≡ n = x.rows in
    steps_as_packed t s b (omega (arith, h, rows)) k ∙ goes_as n go (packing_in t) (packing_of n go t x) dead s b h k
