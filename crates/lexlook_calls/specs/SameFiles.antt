-- What it says of two files that nothing is told of them, and of which files nothing is told. (This project's.)
use Rattle.std.specs.Prelude.{◌≡◌, ℕ, List, true}
use Rattle.lexkit.specs.declared.options.Options.{Options}
use Rattle.lexlook_tables.specs.Scans.{ScanAlike}
use Rattle.lexlook_tables.specs.declared.same.tables.Comparison.{Comparison}
use Rattle.lexlook_tables.specs.declared.same.tables.Comparison.TheVariants.{Same}
use Rattle.lexlook_calls.specs.Compared.{IsSideOf, HoldsOfSides}
use Rattle.lexlook_calls.specs.Lines.{Side}
use Rattle.lexlook_calls.specs.Sides.{is_table_file}
use Rattle.lexlook_calls.specs.declared.same.Given.{Given}

-- Two files that are found to do the same scan each input alike.
abbrev pub SameScanAlike : Type 0
SameScanAlike =
    (options : Options) (g h : Given) (a b : Side) (order : List ℕ) → IsSideOf options g a → IsSideOf options h b
    → HoldsOfSides a b order Same → ScanAlike a.machine b.machine

-- Of table files of the same bytes nothing else holds than that they do the same.
abbrev pub EqualAreSame : Type 0
EqualAreSame =
    (options : Options) (g h : Given) (a b : Side) (order : List ℕ) (told : Comparison)
    → is_table_file g.bytes.now ≡ true
    → g.bytes.now ≡ h.bytes.now → IsSideOf options g a → IsSideOf options h b → HoldsOfSides a b order told
    → told ≡ Same
