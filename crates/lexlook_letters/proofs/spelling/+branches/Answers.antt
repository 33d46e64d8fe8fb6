use Rattle.std.proofs.Common.{◌≡◌, ℕ, ◌+◌, ◌∙◌, List, ◌++◌, sym, ap, append_assoc, arith}
use Rattle.std.specs.Prelude.{codes, drop, is_some}
use Rattle.std.proofs.lemmas.Result.{IfErr-weaker, err_from_is_err_and, on_ok_weaker}
use Rattle.lexlook_letters.specs.Sequences.{byte_ranges}
use Rattle.lexlook_letters.specs.Text.{branches_at, branches_text, going_through}
use Rattle.lexlook_letters.proofs.Nodes.{choice_nodes, part_nodes}
use Rattle.lexlook_letters.proofs.Written.{EndsSo, ends_as, few_as, goes_as, fits_as, in_group, many_as, one_as, refused_in, refused_more, series_none, series_some, series_node, splits, at_end, barred_some, is_empty_list, not_empty, with_bar}
use Rattle.lexlook_letters.proofs.spelling.+branches.Goals.{add_branches-then-is_some+in_ok-use_node, add_branches-else-is_some}
use Rattle.lexlook_letters.proofs.spelling.+branches.Goals as goal

pub add_branch-add_branch-requires : goal.add_branch-add_branch-requires
add_branch-add_branch-requires t c =
    let few = few_as c.args.at c.in-Some.first.now c.in-Some.more.now c.args.run.now c.in-Some.ensures.cases.0 c.requires.reach in
    let on = goes_as c.args.at c.in-Some.first.now _ c.in-Some.more.now c.args.run.now c.in-Some.ensures.cases.0 c.requires.reach c.requires.one
    (sym c.going_through.ensures ∙ c.in-Some-going_through.is) in
    let one = one_as (c.args.at + 1) c.run_length.result c.in-Some.first.now c.in-Some.more.now c.args.run.now c.in-Some.ensures.cases.0 on.reach c.run_length.ensures c.if-run_length-run.true in
    (omega (arith, few), (on.reach, one))

pub add_branch-returns-then-run_length-run-clause-text : goal.add_branch-returns-then-run_length-run-clause-text
add_branch-returns-then-run_length-run-clause-text t c =
    let on = goes_as c.args.at c.in-Some.first.now _ c.in-Some.more.now c.args.run.now c.in-Some.ensures.cases.0 c.requires.reach c.requires.one
    (sym c.going_through.ensures ∙ c.in-Some-going_through.is) in
    let one = one_as (c.args.at + 1) c.run_length.result c.in-Some.first.now c.in-Some.more.now c.args.run.now c.in-Some.ensures.cases.0 on.reach c.run_length.ensures c.if-run_length-run.true in
    on_ok_weaker c.add_branch.result
    (λ h. h
    ∙ ap (λ (z : List ℕ). z ++ branches_text (branches_at (c.args.at + 1) c.args.run.now)) c.in_ok-add_class-in-Some-going_through.ensures
    ∙ append_assoc c.args.text.now.items _ _
    ∙ ap (λ (z : List ℕ). c.args.text.now.items ++ z) (sym (on.one one).0))
    c.add_branch.ensures.text

pub add_branch-returns-then-run_length-run-clause-nodes : goal.add_branch-returns-then-run_length-run-clause-nodes
add_branch-returns-then-run_length-run-clause-nodes t c =
    let on = goes_as c.args.at c.in-Some.first.now _ c.in-Some.more.now c.args.run.now c.in-Some.ensures.cases.0 c.requires.reach c.requires.one
    (sym c.going_through.ensures ∙ c.in-Some-going_through.is) in
    let one = one_as (c.args.at + 1) c.run_length.result c.in-Some.first.now c.in-Some.more.now c.args.run.now c.in-Some.ensures.cases.0 on.reach c.run_length.ensures c.if-run_length-run.true in
    let more = (on.one one).1 in
    on_ok_weaker c.add_branch.result (λ h. omega (arith, h, more, c.in_ok-use_node.ensures.nodes)) c.add_branch.ensures.nodes

pub add_branch-returns-then-run_length-run-clause-refused : goal.add_branch-returns-then-run_length-run-clause-refused
add_branch-returns-then-run_length-run-clause-refused t c =
    let on = goes_as c.args.at c.in-Some.first.now _ c.in-Some.more.now c.args.run.now c.in-Some.ensures.cases.0 c.requires.reach c.requires.one
    (sym c.going_through.ensures ∙ c.in-Some-going_through.is) in
    let one = one_as (c.args.at + 1) c.run_length.result c.in-Some.first.now c.in-Some.more.now c.args.run.now c.in-Some.ensures.cases.0 on.reach c.run_length.ensures c.if-run_length-run.true in
    IfErr-weaker c.add_branch.result _ _ (λ e h. refused_more e c.args.left.now _ _ _ 1 c.in_ok-use_node.ensures.nodes (on.one one).1 h) c.add_branch.ensures.refused

pub add_branch-add_branches-requires : goal.add_branch-add_branches-requires
add_branch-add_branches-requires t c =
    let few = few_as c.args.at c.in-Some.first.now c.in-Some.more.now c.args.run.now c.in-Some.ensures.cases.0 c.requires.reach in
    let on = goes_as c.args.at c.in-Some.first.now _ c.in-Some.more.now c.args.run.now c.in-Some.ensures.cases.0 c.requires.reach c.requires.one
    (sym c.going_through.ensures ∙ c.in-Some-going_through.is) in
    (omega (arith, few), on.reach)

pub add_branch-returns-in_ok-add_last_class-in-None-clause-text : goal.add_branch-returns-in_ok-add_last_class-in-None-clause-text
add_branch-returns-in_ok-add_last_class-in-None-clause-text t c =
    let ends : EndsSo c.args.at c.args.run.now = ends_as c.args.at c.in-Some.first.now c.in-Some.more.now c.args.run.now c.in-Some.ensures.cases.0 c.requires.reach c.requires.one
    (sym c.going_through.ensures ∙ c.in-None.is) in
    c.in_ok-add_last_class-in-None.ensures ∙ ap (λ (z : List ℕ). c.args.text.now.items ++ z) (sym ends.text)

pub add_branch-returns-in_ok-add_last_class-in-None-clause-nodes : goal.add_branch-returns-in_ok-add_last_class-in-None-clause-nodes
add_branch-returns-in_ok-add_last_class-in-None-clause-nodes t c =
    let ends : EndsSo c.args.at c.args.run.now = ends_as c.args.at c.in-Some.first.now c.in-Some.more.now c.args.run.now c.in-Some.ensures.cases.0 c.requires.reach c.requires.one
    (sym c.going_through.ensures ∙ c.in-None.is) in
    omega (arith, ends.parts, c.in_ok-use_node.ensures.nodes)

pub add_branch-returns-in_err-add_branches-in-Some-going_through-clause-refused : goal.add_branch-returns-in_err-add_branches-in-Some-going_through-clause-refused
add_branch-returns-in_err-add_branches-in-Some-going_through-clause-refused t c =
    let on = goes_as c.args.at c.in-Some.first.now _ c.in-Some.more.now c.args.run.now c.in-Some.ensures.cases.0 c.requires.reach c.requires.one
    (sym c.going_through.ensures ∙ c.in-Some-going_through.is) in
    let many = many_as (c.args.at + 1) c.run_length.result c.in-Some.first.now c.in-Some.more.now c.args.run.now c.in-Some.ensures.cases.0 on.reach c.run_length.ensures c.if-run_length-run.false in
    let p = err_from_is_err_and c.from_residual-in_err-add_branches-in-Some-going_through.result c.from_residual-in_err-add_branches-in-Some-going_through.ensures.1 in
    rw (p.1, p.2)
    (refused_more _ c.args.left.now c.use_node-in-Some-going_through.new.left (choice_nodes (branches_at (c.args.at + 1) c.args.run.now)) _ 2
    (omega (arith, c.in_ok-use_node.ensures.nodes, c.in_ok-use_node-in-Some-going_through.ensures.nodes)) (on.many many).1 c.in_err-add_branches-in-Some-going_through.ensures.refused)

pub add_branch-returns-in_ok-add_byte-in-Some-going_through-2-clause-text : goal.add_branch-returns-in_ok-add_byte-in-Some-going_through-2-clause-text
add_branch-returns-in_ok-add_byte-in-Some-going_through-2-clause-text t c =
    let on = goes_as c.args.at c.in-Some.first.now _ c.in-Some.more.now c.args.run.now c.in-Some.ensures.cases.0 c.requires.reach c.requires.one
    (sym c.going_through.ensures ∙ c.in-Some-going_through.is) in
    let many = many_as (c.args.at + 1) c.run_length.result c.in-Some.first.now c.in-Some.more.now c.args.run.now c.in-Some.ensures.cases.0 on.reach c.run_length.ensures c.if-run_length-run.false in
    let inner : List ℕ = branches_text (branches_at (c.args.at + 1) c.args.run.now) in
    c.in_ok-add_byte-in-Some-going_through-2.ensures
    ∙ ap (λ (z : List ℕ). z ++ codes ")") c.in_ok-add_branches-in-Some-going_through.ensures.text
    ∙ ap (λ (z : List ℕ). (z ++ inner) ++ codes ")") c.in_ok-add_byte-in-Some-going_through.ensures
    ∙ ap (λ (z : List ℕ). ((z ++ codes "(") ++ inner) ++ codes ")") c.in_ok-add_class-in-Some-going_through.ensures
    ∙ in_group c.args.text.now.items _ (codes "(") inner (codes ")")
    ∙ ap (λ (z : List ℕ). c.args.text.now.items ++ z) (sym (on.many many).0)

pub add_branch-returns-in_ok-add_byte-in-Some-going_through-2-clause-nodes : goal.add_branch-returns-in_ok-add_byte-in-Some-going_through-2-clause-nodes
add_branch-returns-in_ok-add_byte-in-Some-going_through-2-clause-nodes t c =
    let on = goes_as c.args.at c.in-Some.first.now _ c.in-Some.more.now c.args.run.now c.in-Some.ensures.cases.0 c.requires.reach c.requires.one
    (sym c.going_through.ensures ∙ c.in-Some-going_through.is) in
    let many = many_as (c.args.at + 1) c.run_length.result c.in-Some.first.now c.in-Some.more.now c.args.run.now c.in-Some.ensures.cases.0 on.reach c.run_length.ensures c.if-run_length-run.false in
    let more = (on.many many).1 in
    omega (arith, more, c.in_ok-use_node.ensures.nodes, c.in_ok-use_node-in-Some-going_through.ensures.nodes, c.in_ok-add_branches-in-Some-going_through.ensures.nodes)

pub add_branches-split_at-requires : goal.add_branches-split_at-requires
add_branches-split_at-requires t c = fits_as c.args.at c.run_length.result c.in-Some.first.now c.in-Some.more.now c.loop-first.rest.now c.in-Some.ensures.cases.0 c.run_length.ensures

pub add_branches-add_branch-requires : goal.add_branches-add_branch-requires
add_branches-add_branch-requires t c =
    let s = splits c.args.at c.run_length.result c.in-Some.first.now c.in-Some.more.now c.loop-first.rest.now c.split_at.result.0.now c.split_at.result.1.now
    c.loop-first.invariant.reach c.in-Some.ensures.cases.0 c.run_length.ensures c.split_at.ensures.front c.split_at.ensures.back in
    (omega arith, (s.reach, s.one))

-- what is left, before and after a node for the series
pub add_branches-returns-in_err-add_branch-clause-refused : goal.add_branches-returns-in_err-add_branch-clause-refused
add_branches-returns-in_err-add_branch-clause-refused t c =
    let s = splits c.args.at c.run_length.result c.in-Some.first.now c.in-Some.more.now c.loop-first.rest.now c.split_at.result.0.now c.split_at.result.1.now
    c.loop-first.invariant.reach c.in-Some.ensures.cases.0 c.run_length.ensures c.split_at.ensures.front c.split_at.ensures.back in
    let node : ℕ = series_node (going_through (drop c.args.at (byte_ranges c.in-Some.first.now))) in
    let taken : c.if-is_some.left + node ≡ c.loop-first.left = elim c.if-is_some.branch [
      | add_branches-then-is_some+in_ok-use_node w ↦
          let one = series_some _ (sym (ap is_some c.going_through.ensures) ∙ sym c.is_some.ensures ∙ w.if-is_some.true) in
          omega (arith, one, w.left-is, w.in_ok-use_node.ensures.nodes)
      | add_branches-else-is_some w ↦
          let none = series_none _ (sym (ap is_some c.going_through.ensures) ∙ sym c.is_some.ensures ∙ w.if-is_some.false) in
          omega (arith, none, w.left-is)
    ] in
    let p = err_from_is_err_and c.from_residual-in_err-add_branch.result c.from_residual-in_err-add_branch.ensures.1 in
    rw (p.1, p.2)
    (refused_in _ c.if-is_some.left node (part_nodes (branches_at c.args.at c.split_at.result.0.now)) (choice_nodes (branches_at c.args.at c.split_at.result.1.now))
    (choice_nodes (branches_at c.args.at c.loop-first.rest.now)) c.args.left.now (choice_nodes (branches_at c.args.at c.args.sequences.now)) c.loop-first.left taken
    c.loop-first.invariant.nodes s.nodes c.in_err-add_branch.ensures.refused)

pub add_branches-loop-first-preserved-in_ok-add_byte : goal.add_branches-loop-first-preserved-in_ok-add_byte
add_branches-loop-first-preserved-in_ok-add_byte t c =
    let at : ℕ = c.args.at in
    let s = splits at c.run_length.result c.in-Some.first.now c.in-Some.more.now c.loop-first.rest.now c.split_at.result.0.now c.split_at.result.1.now
    c.loop-first.invariant.reach c.in-Some.ensures.cases.0 c.run_length.ensures c.split_at.ensures.front c.split_at.ensures.back in
    let taken : c.if-is_some.left + series_node (going_through (drop at (byte_ranges c.in-Some.first.now))) ≡ c.loop-first.left = elim c.if-is_some.branch [
      | add_branches-then-is_some+in_ok-use_node w ↦
          let one = series_some _ (sym (ap is_some c.going_through.ensures) ∙ sym c.is_some.ensures ∙ w.if-is_some.true) in
          omega (arith, one, w.left-is, w.in_ok-use_node.ensures.nodes)
      | add_branches-else-is_some w ↦
          let none = series_none _ (sym (ap is_some c.going_through.ensures) ∙ sym c.is_some.ensures ∙ w.if-is_some.false) in
          omega (arith, none, w.left-is)
    ] in
    let later : List ℕ = branches_text (branches_at at c.split_at.result.1.now) in
    let run : List ℕ = branches_text (branches_at at c.split_at.result.0.now) in
    let bar = barred_some at c.split_at.result.1.now s.reach_later (not_empty _ _ c.is_empty.ensures c.if-not-is_empty.true) in
    record {
      reach = s.reach_later;
      text = ap (λ (z : List ℕ). z ++ later) (c.in_ok-add_byte.ensures ∙ ap (λ (z : List ℕ). z ++ codes "|") c.in_ok-add_branch.ensures.text)
          ∙ with_bar c.loop-first.text.items run (codes "|") later
          ∙ ap (λ (z : List ℕ). c.loop-first.text.items ++ z) (ap (λ (z : List ℕ). run ++ z) (sym bar) ∙ sym s.text)
          ∙ c.loop-first.invariant.text;
      nodes = omega (arith, taken, s.nodes, c.in_ok-add_branch.ensures.nodes, c.loop-first.invariant.nodes);
    }

pub add_branches-loop-first-preserved : goal.add_branches-loop-first-preserved
add_branches-loop-first-preserved t c =
    let at : ℕ = c.args.at in
    let s = splits at c.run_length.result c.in-Some.first.now c.in-Some.more.now c.loop-first.rest.now c.split_at.result.0.now c.split_at.result.1.now
    c.loop-first.invariant.reach c.in-Some.ensures.cases.0 c.run_length.ensures c.split_at.ensures.front c.split_at.ensures.back in
    let taken : c.if-is_some.left + series_node (going_through (drop at (byte_ranges c.in-Some.first.now))) ≡ c.loop-first.left = elim c.if-is_some.branch [
      | add_branches-then-is_some+in_ok-use_node w ↦
          let one = series_some _ (sym (ap is_some c.going_through.ensures) ∙ sym c.is_some.ensures ∙ w.if-is_some.true) in
          omega (arith, one, w.left-is, w.in_ok-use_node.ensures.nodes)
      | add_branches-else-is_some w ↦
          let none = series_none _ (sym (ap is_some c.going_through.ensures) ∙ sym c.is_some.ensures ∙ w.if-is_some.false) in
          omega (arith, none, w.left-is)
    ] in
    let later = c.split_at.result.1.now in
    let run : List ℕ = branches_text (branches_at at c.split_at.result.0.now) in
    let ended = at_end at later (is_empty_list _ _ c.is_empty.ensures c.if-not-is_empty.false) in
    record {
      reach = s.reach_later;
      text = ap (λ (z : List ℕ). z ++ branches_text (branches_at at later)) c.in_ok-add_branch.ensures.text
          ∙ append_assoc c.loop-first.text.items run (branches_text (branches_at at later))
          ∙ ap (λ (z : List ℕ). c.loop-first.text.items ++ z) (ap (λ (z : List ℕ). run ++ z) ended ∙ sym s.text)
          ∙ c.loop-first.invariant.text;
      nodes = omega (arith, taken, s.nodes, c.in_ok-add_branch.ensures.nodes, c.loop-first.invariant.nodes);
    }
