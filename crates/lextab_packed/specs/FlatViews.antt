-- What a flat machine is made of.
use Rattle.lextab_packed.specs.declared.flat.Flat.{Flat}
use Rattle.lextab_packed.specs.declared.tables.Tables.{Tables}

-- the tables whose machine it is
abbrev pub tables_of : Flat → Tables
tables_of f = f.tables
