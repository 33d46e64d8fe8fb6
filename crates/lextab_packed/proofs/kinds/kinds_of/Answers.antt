use Rattle.std.proofs.Common.{◌≡◌, ◌+◌, [], ◌∷◌, ◌++◌, length, ap, ◌∙◌, arith}
use Rattle.std.specs.Prelude.{slice_get}
use Rattle.std.proofs.lemmas.List.{length-append}
use Rattle.lextab_packed.specs.Flats.{kind_of}
use Rattle.lextab_packed.specs.Machines.{table_machine}
use Rattle.lextab_packed.proofs.Columns.{each_more}
use Rattle.lextab_packed.proofs.Marks.{few_states}
use Rattle.lextab_packed.proofs.kinds.kinds_of.Goals as goal

pub loop-state-preserved : goal.loop-state-preserved
loop-state-preserved c =
    let more = each_more (kind_of (table_machine c.args.tables.now)) c.loop-state.kinds.items c.loop-state.state c.loop-state.invariant.0 c.loop-state.invariant.1 in
    let x : c.kind_of.result ≡ kind_of (table_machine c.args.tables.now) c.loop-state.state = c.kind_of.ensures in
    let items : c.push.new.self.items ≡ c.loop-state.kinds.items ++ kind_of (table_machine c.args.tables.now) c.loop-state.state ∷ [] = c.in_ok-push.ensures.items ∙ ap (λ k. c.loop-state.kinds.items ++ k ∷ []) x in (
      ap length items ∙ length-append c.loop-state.kinds.items (kind_of (table_machine c.args.tables.now) c.loop-state.state ∷ []) ∙ ap (λ n. n + 1) c.loop-state.invariant.0,
      λ s lt. ap (λ l. slice_get l s) items ∙ more s lt,
    )

pub overflow_cast-state : goal.overflow_cast-state
overflow_cast-state c = omega (arith, c.len-states.ensures, c.loop-state-test.true, few_states c.args.tables.now)
