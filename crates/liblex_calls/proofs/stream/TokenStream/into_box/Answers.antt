use Rattle.std.proofs.Common.{sym, ◌∙◌}
use Rattle.liblex_calls.proofs.Opened.{some_of}
use Rattle.liblex_calls.proofs.stream.TokenStream.into_box.Goals as goal

pub emptied-requires : goal.emptied-requires
emptied-requires c = some_of c.args.self.place.value (sym c.args.self.told ∙ c.if-is_open.true)
