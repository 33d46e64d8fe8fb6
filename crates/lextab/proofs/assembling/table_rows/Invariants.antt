use Rattle.std.proofs.Common.{◌≡◌, ◌++◌, map, drop}
use Rattle.lextab_packed.specs.Views.{row_of}
use Rattle.lextab.specs.Assembled.{rows_with}
use Rattle.lextab.proofs.assembling.table_rows.Given as goal

abbrev pub invariant-loop-i : goal.invariant-loop-i
invariant-loop-i l =
    map row_of l.rows.items ++ rows_with (drop l.i l.defaults) (drop l.i l.bases) (map (λ v. v.value.items) (drop l.i l.lists)) ≡ rows_with l.defaults l.bases (map (λ v. v.value.items) l.lists)
