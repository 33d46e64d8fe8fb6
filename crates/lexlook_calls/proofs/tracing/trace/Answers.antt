use Rattle.std.proofs.Common.{refl}
use Rattle.lex_semantics.specs.Spec.{Spec}
use Rattle.lexre_bytes.proofs.MemoryLaws.{unless_memory}
use Rattle.lexspec.specs.Views.{spec_of}
use Rattle.lexlook_calls.specs.Tracing.{SpellsWithRoom}
use Rattle.lexlook_calls.proofs.Traced.{none_traced, none_with_room}
use Rattle.lexlook_calls.proofs.tracing.trace.Goals as goal

pub returns-in-Err-clause-told : goal.returns-in-Err-clause-told
returns-in-Err-clause-told g c = (
  none_traced c.args.options c.args.text.now c.in-Err.error c.in-Err.ensures.refused c.in-Err.ensures.of_text,
  refl,
  refl,
)

pub returns-in-Err-traced-clause-told : goal.returns-in-Err-traced-clause-told
returns-in-Err-traced-clause-told g c = (
  unless_memory c.in-Err-traced.error.kind _ ((S : Spec) → SpellsWithRoom c.args.options c.args.text.now S → ⊥)
      (λ full. none_with_room c.args.options c.args.text.now (spec_of c.in-Ok.spec) c.in-Ok.ensures.spells full) c.in-Err-traced.ensures.refused,
  refl,
  refl,
)
