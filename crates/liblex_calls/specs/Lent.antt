-- A scan that is lent where it lies. (Own.)
use Rattle.std.specs.Prelude.{Some}
use Rattle.std.specs.Borrow.{Lends, MutBor, Fml}
use Rattle.liblex_calls.specs.declared.stream_holder.StreamHolder.{StreamHolder}
use Rattle.liblex_calls.specs.declared.token_scan.TokenScan.{TokenScan}
use Rattle.liblex_calls.specs.contracts.stream_holder.StreamHolder.{the_row as holder_row}
use Rattle.liblex_calls.specs.contracts.token_scan.TokenScan.{the_row as scan_row}

-- a holder with this scan in it, at the same place
abbrev pub with_scan : StreamHolder → TokenScan → StreamHolder
with_scan h s = record h { value = Some s }

-- Once the loan ends, the holder has the scan that was left behind it.
abbrev pub LendsScan : MutBor StreamHolder → MutBor TokenScan → Fml
LendsScan h r = Lends holder_row scan_row h r (with_scan h.now)
