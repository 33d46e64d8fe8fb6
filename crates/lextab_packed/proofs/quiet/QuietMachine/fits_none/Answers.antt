use Rattle.std.proofs.Common.{sym, ◌∙◌}
use Rattle.std.proofs.lemmas.Option.{get_or_from_slice_get}
use Rattle.lex_semantics.specs.Machine.{Machine}
use Rattle.lextab_packed.specs.FlatViews.{tables_of}
use Rattle.lextab_packed.specs.Machines.{table_machine}
use Rattle.lextab_packed.specs.Rejections.{all_only_reject}
use Rattle.lextab_packed.proofs.Quieting.{only_quiet, all_of}
use Rattle.lextab_packed.proofs.quiet.QuietMachine.fits_none.Goals as goal

pub returns : goal.returns
returns c = λ is. only_quiet M c.args.state (all_of M (M.accepts c.args.state) (sym (c.index.ensures ∙ get_or_from_slice_get c.args.self.now.silent.items c.args.state (all_only_reject M (M.accepts c.args.state)) c.index.result.now (c.args.self.now.told c.args.state c.requires)) ∙ is))
  where
    M : Machine
    M = table_machine (tables_of c.args.self.now.flat.now)
