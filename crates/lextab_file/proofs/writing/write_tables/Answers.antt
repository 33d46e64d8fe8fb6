use Rattle.std.proofs.Common.{sym, subst}
use Rattle.lextab_file.specs.Fitting.{FitsParts}
use Rattle.lextab_file.proofs.Texts.{parts_fit}
use Rattle.lextab_file.proofs.writing.write_tables.Goals as goal

pub put_parts-requires-clause-fits : goal.put_parts-requires-clause-fits
put_parts-requires-clause-fits g c = subst FitsParts (sym c.parts.ensures) (parts_fit c.args.tables.now.parts c.args.tables.now.lawful)
