use Rattle.std.proofs.Common.{rules, ◌≡◌, ℕ, ◌+◌, length, slice_index, arith, sym, refl, subst}
use Rattle.lexauto_dfa.specs.Marked.{Marks}
use Rattle.lexauto_dfa.specs.Sources.{HasBelow}
use Rattle.lexauto_dfa.proofs.Noting.{marks_then, below_more}
use Rattle.lexauto_dfa.proofs.least.marking.mark_all.Goals as goal

pub loop-target-preserved : goal.loop-target-preserved
loop-target-preserved c =
    let row = c.args.letter.now.row.items in
    let i = c.loop-target.target-index in
    let xs = c.args.targets.now in
    record {
      arranged = c.in_ok-mark_sources.ensures.arranged;
      notes = c.in_ok-mark_sources.ensures.notes;
      marks = marks_then c.args.blocks.now c.loop-target.blocks c.mark_sources.new.blocks
          (λ x. HasBelow xs i (slice_index row x)) (λ x. slice_index row x ≡ slice_index xs i) (λ x. HasBelow xs (i + 1) (slice_index row x))
          c.loop-target.invariant.marks c.in_ok-mark_sources.ensures.marks
          (λ x h. below_more xs i (slice_index xs i) (slice_index row x) refl h)
          (λ x (j, h, e). (j, omega (arith, h), e))
          (λ x e. (i, omega arith, sym e));
    }

pub returns-clause-marks : goal.returns-clause-marks
returns-clause-marks c =
    let row = c.args.letter.now.row.items in
    let i = c.loop-target.target-index in
    let xs = c.args.targets.now in
    let all : i ≡ length xs = search rules in
    subst (λ (n : ℕ). Marks c.args.blocks.now (λ x. HasBelow xs n (slice_index row x)) c.loop-target.blocks) all c.loop-target.invariant.marks
