-- What a program in C holds of a scan by pieces, of a stream of tokens, and of a loaded table. (Own.)
use Rattle.std.specs.Prelude.{Option}
use Rattle.liblex_calls.specs.declared.handle.Scan.{Scan}
use Rattle.liblex_calls.specs.declared.piece_scan.PieceScan.{PieceScan}
use Rattle.liblex_calls.specs.declared.stream.TokenStream.{TokenStream}
use Rattle.liblex_calls.specs.declared.token_scan.TokenScan.{TokenScan}
use Rattle.liblex_calls.specs.declared.tables.LoadedTables.{LoadedTables}
use Rattle.liblex_calls.specs.declared.rules.Rules.{Rules}

-- the scan that is open there, if one is
abbrev pub open_in : Scan → Option PieceScan
open_in scan = scan.place.value

-- the rules that are loaded there, if any are
abbrev pub loaded_in : LoadedTables → Option Rules
loaded_in tables = tables.place.value

-- the scan that is open in a stream of tokens, if one is
abbrev pub stream_in : TokenStream → Option TokenScan
stream_in stream = stream.place.value
