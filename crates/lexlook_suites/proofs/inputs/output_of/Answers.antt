use Rattle.std.proofs.Common.{◌≡◌, ◌∙◌, ◌++◌, List, ℕ, Some, ap, subst, sym, arith}
use Rattle.lex_io.specs.Source.{Gives}
use Rattle.lex_io.specs.SliceSources.{slice_ends, slice_rest}
use Rattle.lex_machine.proofs.Growing.{is_text_from}
use Rattle.lex_semantics.specs.Acting.{Status}
use Rattle.lex_semantics.specs.Run.{Run}
use Rattle.lexlook_suites.specs.Gathers.{rules_by}
use Rattle.lexlook_suites.proofs.Suited.{whole_run}
use Rattle.lexlook_suites.proofs.inputs.output_of.Goals as goal

pub returns-in-Ok-clause-ran : goal.returns-in-Ok-clause-ran
returns-in-Ok-clause-ran c =
    let h = c.in-Ok.ensures.ran in
    let x = c.args.text.now in
    let R = rules_by c.args.machine.now in
    let text = is_text_from x (λ k. let f = c.type_inv.text k in omega (arith, f)) in
    let gave = subst (λ (l : List ℕ). Gives (Some l) (Some (slice_rest c.run.new.source)) (slice_ends c.new-source.result) (slice_ends c.run.new.source) h.0) c.new-source.ensures.bytes h.2 in
    let written : c.into_bytes.result.items ≡ h.1 = c.into_bytes.ensures ∙ h.3 ∙ ap (λ (l : List ℕ). l ++ h.1) c.new-sink.ensures.empty in (
      c.in-Ok.field-0,
      subst (λ (l : List ℕ). Run R x l (Status c.in-Ok.field-0)) (sym written)
          (whole_run R x h.0 h.1 (slice_rest c.run.new.source) (slice_ends c.new-source.result) (slice_ends c.run.new.source) (Status c.in-Ok.field-0) text gave h.4),
    )

pub returns-in-Ok-clause-text : goal.returns-in-Ok-clause-text
returns-in-Ok-clause-text c = is_text_from c.args.text.now (λ k. let f = c.type_inv.text k in omega (arith, f))
