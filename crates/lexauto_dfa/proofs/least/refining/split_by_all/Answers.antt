use Rattle.std.proofs.Common.{rules, ◌≡◌, ◌↔◌, ℕ, ◌-◌, ◌<◌, true, List, length, slice_index, arith, sym, ap, subst, ◌∙◌}
use Rattle.lexauto_dfa.specs.Arranged.{states, block_of}
use Rattle.lexauto_dfa.specs.Letters.{row_of}
use Rattle.lexauto_dfa.specs.Sources.{Has}
use Rattle.lexauto_dfa.specs.Splits.{Cuts}
use Rattle.lexauto_dfa.proofs.Rounds.{row_is, letter_step}
use Rattle.lexauto_dfa.proofs.ByLetters.{passed_over, all_passed}
use Rattle.lexauto_dfa.proofs.least.refining.split_by_all.Goals as goal

pub split-requires-clause-row : goal.split-requires-clause-row
split-requires-clause-row c =
    let k = c.loop-index.index in
    let low : k < length c.args.letters.now = search rules in
    let row = row_is c.args.letters.now k c.index-letters-index.result low c.index-letters-index.is in
    let len = c.requires.rows k low in
    let same = c.loop-index.invariant.counts.same_states in
    ap (λ (xs : List ℕ). length xs) (sym row) ∙ len ∙ sym same

pub returns-then-is_settled-clause-used : goal.returns-then-is_settled-clause-used
returns-then-is_settled-clause-used c =
    let letters = c.args.letters.now in
    let k = c.loop-index.index in
    let low : k < length letters = search rules in
    let done = all_passed letters c.args.targets.now c.args.blocks.now c.args.waiting.now.items c.loop-index.blocks c.loop-index.waiting.items c.requires.rows
    (λ a x la lx has. c.is_settled.ensures c.if-is_settled.true (slice_index (row_of letters a) x) x has (c.requires.known.allow a x la lx))
    (length letters - k) k (omega (arith, low)) c.loop-index.invariant in
    done.used

pub loop-index-preserved : goal.loop-index-preserved
loop-index-preserved c =
    let v = c.loop-index.invariant in
    let n = c.in_ok-split.ensures.counts in
    let old = c.args.blocks.now in
    let k = c.loop-index.index in
    let low : k < length c.args.letters.now = search rules in
    let row = row_is c.args.letters.now k c.index-letters-index.result low c.index-letters-index.is in
    record {
      arranged = c.in_ok-split.ensures.ready.arranged;
      untouched = c.in_ok-split.ensures.ready.untouched;
      counts = record {
        same_states = n.same_states ∙ v.counts.same_states;
        grown = omega (arith, n.grown, v.counts.grown);
        weight = omega (arith, n.weight, v.counts.weight);
        known = n.known;
      };
      used = λ labels coarse inside len tells u.
          letter_step c.args.letters.now labels (states old) len c.requires.rows coarse inside (block_of c.loop-index.blocks) (block_of c.split.new.blocks)
          (Has c.loop-index.waiting.items) (Has c.split.new.waiting.items) c.args.targets.now k low tells
          (λ m f. subst (λ (i : ℕ). Cuts i (block_of c.loop-index.blocks) (block_of c.split.new.blocks) m (Has c.loop-index.waiting.items) (Has c.split.new.waiting.items)) v.counts.same_states
          (c.in_ok-split.ensures.cuts m (λ x h. subst (λ (xs : List ℕ). (m x ≡ true) ↔ Has c.args.targets.now (slice_index xs x)) row (f x (omega (arith, v.counts.same_states, h))))))
          (v.used labels coarse inside len tells u);
    }

pub reaches-requires : goal.reaches-requires
reaches-requires c = λ i h.
    let k = c.loop-index.index in
    let low : k < length c.args.letters.now = search rules in
    let row = row_is c.args.letters.now k c.index-letters-index.result low c.index-letters-index.is in
    let same = ap (λ (xs : List ℕ). length xs) row in
    let len = c.requires.rows k low in
    let less = c.requires.targets i h in
    omega (arith, same, len, less)

pub loop-index-preserved-then-not-reaches : goal.loop-index-preserved-then-not-reaches
loop-index-preserved-then-not-reaches c =
    let letters = c.args.letters.now in
    let k = c.loop-index.index in
    let low : k < length letters = search rules in
    let row = row_is letters k c.index-letters-index.result low c.index-letters-index.is in
    let same = ap (λ (xs : List ℕ). length xs) row in
    let len = c.requires.rows k low in
    passed_over letters c.args.targets.now c.args.blocks.now c.args.waiting.now.items c.loop-index.blocks c.loop-index.waiting.items c.requires.rows k low
    (λ x h has. absurd (c.reaches.ensures c.if-not-reaches.true x (omega (arith, same, len, h)) (subst (λ (xs : List ℕ). Has c.args.targets.now (slice_index xs x)) row has)))
    c.loop-index.invariant
