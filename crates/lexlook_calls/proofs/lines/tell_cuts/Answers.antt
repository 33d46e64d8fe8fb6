use Rattle.std.proofs.Common.{◌∙◌, [], subst}
use Rattle.lexlook_calls.specs.Lines.{side_as}
use Rattle.lexlook_calls.proofs.Cutting.{can_tell_some}
use Rattle.lexlook_calls.proofs.lines.tell_cuts.Goals as goal

pub cut_line-requires : goal.cut_line-requires
cut_line-requires g c = can_tell_some (side_as [] c.args.side.now) c.args.side.now.tables.laws (c.requires.labels []) c.in-Ok.found c.in-Ok.ensures.first

pub returns-clause-told : goal.returns-clause-told
returns-clause-told g c = (
  record {
    found = c.in-Ok.found;
    none = c.in-Ok.ensures.none;
    first = c.in-Ok.ensures.first;
    written = subst (λ bytes. g.K.Sink.wrote c.args.sink.now bytes c.put.new.self) (c.as_slice.ensures.value ∙ c.in-Ok-cut_line.ensures) c.in-Ok-put.ensures.bytes;
  },
  c.is_nothing.ensures,
)
