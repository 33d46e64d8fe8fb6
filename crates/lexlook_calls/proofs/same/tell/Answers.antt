use Rattle.std.proofs.Common.{[], ◌∙◌, Bool, Err, sym, subst}
use Rattle.lex_io.specs.Sink.{Appended}
use Rattle.lexlook_calls.specs.Compared.{HoldsOfSides}
use Rattle.lexlook_calls.specs.Lines.{side_as}
use Rattle.lexlook_calls.specs.declared.error.LookError.{LookError}
use Rattle.lexlook_calls.specs.declared.error.LookError.TheVariants.{Write}
use Rattle.lexlook_calls.proofs.same.tell.Goals as goal

pub told_line-requires-clause-holds : goal.told_line-requires-clause-holds
told_line-requires-clause-holds g c = subst (λ o. HoldsOfSides (side_as c.args.left.name.now c.args.left.side.now) (side_as c.args.right.name.now c.args.right.side.now) o c.in-Ok.found.told) (sym c.as_slice.ensures.value)
    (c.in-Ok.ensures c.args.left.name.now c.args.right.name.now)

pub returns-in-Err-put-clause-told : goal.returns-in-Err-put-clause-told
returns-in-Err-put-clause-told g c = record {
  order = c.as_slice.result.now;
  told = c.in-Ok.found.told;
  holds = subst (λ o. HoldsOfSides (side_as c.args.left.name.now c.args.left.side.now) (side_as c.args.right.name.now c.args.right.side.now) o c.in-Ok.found.told) (sym c.as_slice.ensures.value)
      (c.in-Ok.ensures c.args.left.name.now c.args.right.name.now);
  written = subst (λ bytes. Appended {T = Bool} {E = LookError} (λ xs. g.K.Sink.wrote c.args.sink.now xs c.put.new.self) bytes (Err Write)) (c.as_slice-2.ensures.value ∙ c.in-Ok-told_line.ensures) c.in-Err-put.ensures.bytes;
}

pub returns-clause-told : goal.returns-clause-told
returns-clause-told g c = (
  record {
    order = c.as_slice.result.now;
    told = c.in-Ok.found.told;
    holds = subst (λ o. HoldsOfSides (side_as c.args.left.name.now c.args.left.side.now) (side_as c.args.right.name.now c.args.right.side.now) o c.in-Ok.found.told) (sym c.as_slice.ensures.value)
        (c.in-Ok.ensures c.args.left.name.now c.args.right.name.now);
    written = subst (λ bytes. g.K.Sink.wrote c.args.sink.now bytes c.put.new.self) (c.as_slice-2.ensures.value ∙ c.in-Ok-told_line.ensures) c.in-Ok-put.ensures.bytes;
  },
  c.is_same.ensures,
)

pub told_line-requires-clause-left_labels : goal.told_line-requires-clause-left_labels
told_line-requires-clause-left_labels g c = c.requires.left []

pub told_line-requires-clause-right_labels : goal.told_line-requires-clause-right_labels
told_line-requires-clause-right_labels g c = c.requires.right []
