use Rattle.std.proofs.Common.{ℕ, ◌<◌, List, take, length, Bool, refl, sym, subst, ◌∙◌, get_or, arith}
use Rattle.std.proofs.lemmas.List.{take_more, take_all}
use Rattle.lexlook_tables.specs.Reaching.{BegunFrom}
use Rattle.lexlook_tables.proofs.Searches.{among_at, same_size, begun_more, begun_none}
use Rattle.lexlook_tables.proofs.lines.reaching.add_all.Goals as goal

pub add-requires : goal.add-requires
add-requires c =
    let lt = c.requires (get_or c.args.states.now c.loop-state.state-index 0) (among_at c.args.states.now c.loop-state.state-index (omega (arith, c.loop-state-test.true))) in
    omega (arith, lt, c.loop-state.invariant.size)

pub loop-state-init : goal.loop-state-init
loop-state-init c = record { size = refl; begun = begun_none c.args.found.now.items c.args.marks.now.items }

pub loop-state-preserved : goal.loop-state-preserved
loop-state-preserved c = record {
  size = same_size found found' marks marks' (get_or states k 0) c.in_ok-add.ensures ∙ c.loop-state.invariant.size;
  begun = subst (λ z. BegunFrom z c.args.found.now.items c.args.marks.now.items found' marks') (sym (take_more states k 0 lt))
      (begun_more c.args.found.now.items found found' c.args.marks.now.items marks marks' (take k states) (get_or states k 0) in_marks c.loop-state.invariant.begun c.in_ok-add.ensures);
}
  where
    states : List ℕ
    states = c.args.states.now

    k : ℕ
    k = c.loop-state.state-index

    lt : k < length states
    lt = omega (arith, c.loop-state-test.true)

    found : List ℕ
    found = c.loop-state.found.items

    found' : List ℕ
    found' = c.add.new.found.items

    marks : List Bool
    marks = c.loop-state.marks.items

    marks' : List Bool
    marks' = c.add.new.marks.items

    in_marks : get_or states k 0 < length marks
    in_marks = (let in_old = c.requires (get_or states k 0) (among_at states k lt) in omega (arith, in_old, c.loop-state.invariant.size))

pub returns : goal.returns
returns c = subst (λ z. BegunFrom z c.args.found.now.items c.args.marks.now.items c.loop-state.found.items c.loop-state.marks.items) (take_all c.loop-state.state-index c.args.states.now (omega (arith, c.loop-state-test.false))) c.loop-state.invariant.begun
