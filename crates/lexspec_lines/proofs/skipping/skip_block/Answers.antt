use Rattle.std.proofs.Common.{rules, arith, ◌≡◌, ◌∙◌, sym, length}
use Rattle.lexspec_lines.proofs.SkipLaws.{block_goes, block_ends, block_open}
use Rattle.lexspec_lines.proofs.skipping.skip_block.Goals as goal

pub returns-then-starts_with-clause-after : goal.returns-then-starts_with-clause-after
returns-then-starts_with-clause-after c =
    let some : length c.loop-rest.rest.now ≡ 0 → ⊥ = search rules in
    sym (block_ends c.loop-rest.rest.now _ _ some c.split_line.ensures.line (sym c.starts_with.ensures.value ∙ c.if-starts_with.true)) ∙ c.loop-rest.invariant.same

pub loop-rest-preserved : goal.loop-rest-preserved
loop-rest-preserved c =
    let some : length c.loop-rest.rest.now ≡ 0 → ⊥ = search rules in
    record {
      same = sym (block_goes c.loop-rest.rest.now _ _ some c.split_line.ensures.line (sym c.starts_with.ensures.value ∙ c.if-starts_with.false) (c.split_line.ensures.shorter (omega arith))) ∙ c.loop-rest.invariant.same;
      shorter = omega (arith, c.split_line.ensures.shorter, c.loop-rest.invariant.shorter);
    }

pub returns-clause-after : goal.returns-clause-after
returns-clause-after c =
    let none : length c.loop-rest.rest.now ≡ 0 = search rules in
    sym (block_open c.loop-rest.rest.now none) ∙ c.loop-rest.invariant.same
