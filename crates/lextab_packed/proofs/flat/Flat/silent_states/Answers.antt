use Rattle.std.proofs.Common.{◌≡◌, ℕ, ◌+◌, Bool, [], ◌∷◌, ◌++◌, length, ap, subst, ◌∙◌}
use Rattle.std.specs.Prelude.{slice_get}
use Rattle.std.proofs.lemmas.List.{length-append}
use Rattle.lex_semantics.specs.Text.{Among}
use Rattle.lex_semantics.specs.Machine.{Machine}
use Rattle.lextab_packed.specs.FlatViews.{tables_of}
use Rattle.lextab_packed.specs.Machines.{table_machine, laws_of}
use Rattle.lextab_packed.specs.Rejections.{all_only_reject}
use Rattle.lextab_packed.proofs.Columns.{each_more}
use Rattle.lextab_packed.proofs.flat.Flat.silent_states.Goals as goal

pub loop-state-preserved : goal.loop-state-preserved
loop-state-preserved c =
    let M : Machine = table_machine (tables_of c.args.self.now) in
    let test : ℕ → Bool = λ s. all_only_reject M (M.accepts s) in
    let more = each_more test c.loop-state.silent.items c.loop-state.state c.loop-state.invariant.0 c.loop-state.invariant.1 in
    let x : c.all_only_reject.result ≡ test c.loop-state.state = c.all_only_reject.ensures ∙ ap (all_only_reject M) c.accepts.ensures in
    let items : c.push.new.self.items ≡ c.loop-state.silent.items ++ test c.loop-state.state ∷ [] = c.in_ok-push.ensures.items ∙ ap (λ k. c.loop-state.silent.items ++ k ∷ []) x in (
      ap length items ∙ length-append c.loop-state.silent.items (test c.loop-state.state ∷ []) ∙ ap (λ n. n + 1) c.loop-state.invariant.0,
      λ s lt. ap (λ l. slice_get l s) items ∙ more s lt,
    )

pub all_only_reject-requires : goal.all_only_reject-requires
all_only_reject-requires c = λ i a. (laws_of (tables_of c.args.self.now)).in_range c.loop-state.state i (subst (λ l. Among l i) c.accepts.ensures a)
