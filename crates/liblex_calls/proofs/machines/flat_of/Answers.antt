use Rattle.std.proofs.Common.{refl}
use Rattle.lextab_packed.specs.Views.{table_of}
use Rattle.liblex_calls.proofs.machines.flat_of.Goals as goal

pub returns-clause-found : goal.returns-clause-found
returns-clause-found c = record {
  table = table_of c.in_ok-flat.flat.tables.parts;
  is_file = c.in_ok-flat.ensures.found;
  goes_on = c.in_ok-flat.flat.tables.goes_on.items;
  leads = c.in_ok-flat.flat.tables.leading;
  is = refl;
}
