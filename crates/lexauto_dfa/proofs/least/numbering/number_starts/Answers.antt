use Rattle.std.proofs.Common.{rules, ℕ, ◌<◌, List, length, slice_index, arith, sym, subst, inl}
use Rattle.lexauto_dfa.specs.Numbers.{AreStarts, AreCalled, IsNumberOf}
use Rattle.lexauto_dfa.proofs.Numbered.{starts_more, keeps_grown, keeps_again, call_more}
use Rattle.lexauto_dfa.proofs.least.numbering.number_starts.Goals as goal

pub loop-start-preserved : goal.loop-start-preserved
loop-start-preserved c =
    let v = c.loop-start.invariant in
    let old = c.loop-start.numbers.members.items in
    let new = c.number.new.numbers.members.items in
    let cs = c.args.classes.now in
    let ss = c.args.starts.now in
    let x = slice_index ss c.loop-start.start-index in
    let k = c.in_ok-number.field-0 in
    let items = c.in_ok-push.ensures.items in
    let low : c.loop-start.start-index < length ss = search rules in
    let f = keeps_grown old x k new c.in_ok-number.ensures.grown in
    let called = c.loop-start.called.items in
    let n : IsNumberOf cs new k (slice_index ss (length called)) = subst (λ (i : ℕ). IsNumberOf cs new k (slice_index ss i)) (sym v.len) c.in_ok-number.ensures.number in
    record {
      numbers = c.in_ok-number.ensures.numbers;
      len = search rules;
      each = subst (λ (xs : List ℕ). AreStarts cs ss new xs) (sym items) (starts_more cs ss old new called k v.each f n);
      called = subst (λ (xs : List ℕ). AreCalled (length ss) new xs) (sym items)
          (call_more (length ss) old called x k new c.in_ok-number.ensures.grown (inl (omega (arith, v.len, low))) v.called);
      keeps = keeps_again c.args.numbers.now.members.items old new v.keeps f;
    }

pub returns : goal.returns
returns c =
    let v = c.loop-start.invariant in
    record { numbers = v.numbers; len = search rules; each = v.each; called = v.called; keeps = v.keeps }
