use Rattle.std.proofs.Common.{◌∙◌}
use Rattle.std.proofs.lemmas.Option.{get_or_from_slice_get}
use Rattle.lextab_packed.specs.Flats.{kind_of}
use Rattle.lextab_packed.specs.Machines.{table_machine}
use Rattle.lextab_packed.proofs.flat.FlatMachine.gist.Goals as goal

pub returns : goal.returns
returns c =
    let self = c.args.self.now in
    c.gist_of.ensures c.args.state (c.index.ensures ∙ get_or_from_slice_get self.kinds.items c.args.state (kind_of (table_machine self.tables) c.args.state) c.index.result.now (self.told c.args.state c.requires))

pub gist_of-requires : goal.gist_of-requires
gist_of-requires c =
    let self = c.args.self.now in
    (c.args.state, c.index.ensures ∙ get_or_from_slice_get self.kinds.items c.args.state (kind_of (table_machine self.tables) c.args.state) c.index.result.now (self.told c.args.state c.requires))
