use Rattle.std.proofs.Common.{◌≡◌, ◌<◌, length, inl, inr, sym, subst, ◌∙◌, arith}
use Rattle.std.proofs.lemmas.Bool.{cases_lt}
use Rattle.lextab_packed.specs.Predecessors.{IsSource}
use Rattle.lextab_packed.specs.Steps.{row_in}
use Rattle.lextab_packed.specs.Views.{table_of}
use Rattle.lextab_packed.specs.Table as T
use Rattle.lextab_packed.proofs.Stepping.{row_there, default_known}
use Rattle.lextab_packed.proofs.predecessors.add_defaults.Goals as goal

pub add_source-requires : goal.add_source-requires
add_source-requires c =
    let p = c.args.parts.now in
    let low : c.loop-state.state < length p.rows.items = omega (arith, c.loop-state-test.true, c.len-state-end.ensures) in
    let known = default_known p c.requires.table c.loop-state.state low c.index.result.now c.index.ensures in
    omega (arith, known, c.loop-state.invariant.len)

pub loop-state-preserved : goal.loop-state-preserved
loop-state-preserved c =
    let p = c.args.parts.now in
    let t = table_of p in
    let state = c.loop-state.state in
    let new = c.add_source.new.sources.items in
    let low : state < length p.rows.items = omega (arith, c.loop-state-test.true, c.len-state-end.ensures) in
    let is = row_there p c.requires.table state low c.index.result.now c.index.ensures in
    let here : IsSource new (row_in t state).default_target state = subst (λ (r : T.Row). IsSource new r.default_target state) (sym is) c.add_source.ensures.added in
    record {
      len = c.add_source.ensures.len ∙ c.loop-state.invariant.len;
      added = λ s lt. elim (cases_lt s state) [
        | inl before ↦ c.add_source.ensures.stay (row_in t s).default_target s (c.loop-state.invariant.added s before)
        | inr from ↦ (let e : state ≡ s = omega (arith, lt, from) in subst (λ n. IsSource new (row_in t n).default_target n) e here)
      ];
    }
