use Rattle.std.proofs.Common.{◌≡◌, decimal, sym}
use Rattle.lexkit.proofs.faults.write_table_error.Goals as goal

pub returns-in-BadField-clause-bytes : goal.returns-in-BadField-clause-bytes
returns-in-BadField-clause-bytes g c =
    let place : decimal c.in-BadField.at ≡ c.format-place.result.now = sym c.format-place.ensures.text in
    rw (c.in-BadField.is, place) c.write_line-in-BadField.ensures.bytes

pub returns-in-BadMagic-clause-bytes : goal.returns-in-BadMagic-clause-bytes
returns-in-BadMagic-clause-bytes g c = rw c.in-BadMagic.is c.write_line.ensures.bytes

pub returns-in-BadVersion-clause-bytes : goal.returns-in-BadVersion-clause-bytes
returns-in-BadVersion-clause-bytes g c = rw c.in-BadVersion.is c.write_line-in-BadVersion.ensures.bytes

pub returns-in-Truncated-clause-bytes : goal.returns-in-Truncated-clause-bytes
returns-in-Truncated-clause-bytes g c = rw c.in-Truncated.is c.write_line-in-Truncated.ensures.bytes

pub returns-in-TrailingBytes-clause-bytes : goal.returns-in-TrailingBytes-clause-bytes
returns-in-TrailingBytes-clause-bytes g c = rw c.in-TrailingBytes.is c.write_line-in-TrailingBytes.ensures.bytes
