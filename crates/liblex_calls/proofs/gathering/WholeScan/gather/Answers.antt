use Rattle.std.proofs.Common.{ℕ, [], Ok, Option, refl, subst, ◌∙◌}
use Rattle.liblex_calls.specs.Gathering.{Steps}
use Rattle.liblex_calls.proofs.Gathered.{memory_is_no_fault}
use Rattle.liblex_calls.proofs.gathering.WholeScan.gather.Goals as goal

pub steps-init : goal.steps-init
steps-init c = record { inside = c.requires; room = refl; so = λ M h k. ([], h, k) }

pub steps-preserved : goal.steps-preserved
steps-preserved c = record {
  inside = c.step.ensures.inside;
  room = c.step.ensures.room ∙ c.keep_on.ensures.room ∙ c.steps.invariant.room;
  so = λ M h k. (let (tokens, fed, kept) = c.steps.invariant.so M h k in
      let (more, fed', kept') = c.in-Ok.ensures.gathered M c.args.input.now tokens fed kept in
      subst (λ (o : Option ℕ). Steps M c.args.input.now c.step.new.self c.step.new.kept (Ok o)) c.in-Ok-None.field-0-is (c.in-Ok-None.ensures.steps M more fed' kept'));
}

pub returns-in-Ok-Some-clause-gathers : goal.returns-in-Ok-Some-clause-gathers
returns-in-Ok-Some-clause-gathers c M h k =
    let (tokens, fed, kept) = c.steps.invariant.so M h k in
    let (more, fed', kept') = c.in-Ok.ensures.gathered M c.args.input.now tokens fed kept in
    subst (λ (o : Option ℕ). Steps M c.args.input.now c.step.new.self c.step.new.kept (Ok o)) c.in-Ok-Some.field-0-is (c.in-Ok-Some.ensures.steps M more fed' kept')

pub returns-in-Err-step-clause-gathers : goal.returns-in-Err-step-clause-gathers
returns-in-Err-step-clause-gathers c M h k =
    let (tokens, fed, kept) = c.steps.invariant.so M h k in
    let (more, fed', kept') = c.in-Ok.ensures.gathered M c.args.input.now tokens fed kept in
    c.in-Err-step.ensures.steps M more fed' kept'

pub returns-clause-gathers : goal.returns-clause-gathers
returns-clause-gathers c M h k is = absurd (memory_is_no_fault is)
