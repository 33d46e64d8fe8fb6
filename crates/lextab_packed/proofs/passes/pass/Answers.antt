use Rattle.std.proofs.Common.{◌-◌, ◌<◌, Bool, true, List, length, length-set, slice_set, subst, ◌∙◌, arith}
use Rattle.lextab_packed.specs.Passes.{IsGood}
use Rattle.lextab_packed.specs.Steps.{step_of}
use Rattle.lextab_packed.specs.Views.{table_of}
use Rattle.lextab_packed.proofs.Passing.{still}
use Rattle.lextab_packed.proofs.Spreads.{flag_set}
use Rattle.lextab_packed.proofs.passes.pass.Goals as goal

pub states-preserved-then-leads : goal.states-preserved-then-leads
states-preserved-then-leads c =
    let p = c.args.parts.now in
    let v = c.states.invariant in
    let s = c.states.state - 1 in
    let live = c.states.live.items in
    let few = v.few in
    let len = v.len in
    let some = c.states-test.true in
    let inside : s < length live = omega (arith, few, len, some) in
    let (b, h, good) = c.leads.ensures.yes c.if-leads.true in
    let known = subst (λ (l : List Bool). IsGood c.args.accepting.now l (step_of (table_of p) s b)) c.deref.ensures.value good in
    let now = subst (λ (a : List Bool). IsGood a live (step_of (table_of p) s b)) c.requires.accepting known in
    record {
      few = omega (arith, few, some);
      len = length-set live s true ∙ len;
      sound = λ begun. still p c.requires.table live (slice_set live s true) s b (v.sound begun) h now (λ x t. flag_set live s x inside t);
      settled = λ e. absurd (omega (arith, e));
    }
