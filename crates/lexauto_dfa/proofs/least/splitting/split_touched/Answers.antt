use Rattle.std.proofs.Common.{rules, ◌≡◌, ◌≢◌, ℕ, ◌+◌, List, length, slice_index, arith, sym, ap, ◌∙◌}
use Rattle.lexauto_dfa.specs.Sources.{HasFrom}
use Rattle.lexauto_dfa.proofs.GoesOn.{ends}
use Rattle.lexauto_dfa.proofs.least.splitting.split_touched.Goals as goal

later : (xs : List ℕ) (n c : ℕ) → HasFrom xs n c → c ≢ slice_index xs n → HasFrom xs (n + 1) c
later xs n c (i, from, low, e) ne =
    let other : i ≢ n = (λ q. ne (sym e ∙ ap (λ (j : ℕ). slice_index xs j) q)) in
    (i, omega (arith, from, other), low, e)

pub loop-number-preserved : goal.loop-number-preserved
loop-number-preserved c =
    let v = c.loop-number.invariant in
    let k = v.counts in
    let n = c.in_ok-split_one.ensures.counts in
    record {
      arranged = c.in_ok-split_one.ensures.arranged;
      counts = record {
        same_states = n.same_states ∙ k.same_states;
        grown = omega (arith, n.grown, k.grown);
        weight = omega (arith, n.weight, k.weight);
        known = n.known;
      };
      left = λ d h t. let r = c.in_ok-split_one.ensures.touched d h t in later c.args.touched.now c.loop-number.number-index d (v.left d r.0 r.2) r.1;
      going = λ m f. c.in_ok-split_one.ensures.goes_on c.args.blocks.now c.args.waiting.now.items m k.same_states (v.going m f);
    }

pub returns-clause-cuts : goal.returns-clause-cuts
returns-clause-cuts c = λ m f.
    let v = c.loop-number.invariant in
    let all : c.loop-number.number-index ≡ length c.args.touched.now = search rules in
    ends c.args.blocks.now c.loop-number.blocks c.args.waiting.now.items c.loop-number.waiting.items m v.arranged v.counts.same_states
    (λ d h t. let (i, from, low, e) = v.left d h t in omega (arith, from, low, all)) (v.going m f)
