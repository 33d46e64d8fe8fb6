use Rattle.std.proofs.Common.{◌≡◌, ◌-◌, ◌++◌, ◌∷◌, [], ℕ, List, false, length, inl, inr, sym, ap, ◌∙◌, arith, length-append}
use Rattle.std.specs.Prelude.{slice_index_or}
use Rattle.std.proofs.lemmas.Bool.{cases_lt}
use Rattle.std.proofs.lemmas.List.{get_or_append_left, get_or_push, get_or_default}
use Rattle.lex_semantics.specs.ByteSets.{ByteSet, has, empty_set}
use Rattle.lexauto.proofs.ChangeLaws.{reads_same, same_if_none}
use Rattle.lexauto.proofs.changing.changes_of.Goals as goal

pub loop-set-preserved : goal.loop-set-preserved
loop-set-preserved c =
    let all = c.loop-set.all.items in
    let new = c.changes.result in
    let i = c.loop-set.set-index in
    let letters = c.args.letters.now in
    let count : length all ≡ i = c.loop-set.invariant.len in
    let items : c.push.new.self.items ≡ all ++ new ∷ [] = c.in_ok-push.ensures.items in
    let set : c.set-item.result ≡ slice_index_or letters i empty_set = c.set-item.is ∙ get_or_default letters i c.set-item.result empty_set c.loop-set-test.true in
    record {
      len = omega (arith, ap (λ (l : List ByteSet). length l) items, length-append all (new ∷ []), count);
      told = λ q b lt some low not.
          let here : has (slice_index_or (all ++ new ∷ []) q empty_set) b ≡ false = ap (λ (l : List ByteSet). has (slice_index_or l q empty_set) b) (sym items) ∙ not in
          elim (cases_lt q i) [
            | inl h ↦ c.loop-set.invariant.told q b h some low
                (ap (λ (s : ByteSet). has s b) (sym (get_or_append_left all (new ∷ []) empty_set q (omega (arith, h, count)))) ∙ here)
            | inr past ↦
                (let last : q ≡ i = omega (arith, past, lt) in
                let own : has new b ≡ false = ap (λ (s : ByteSet). has s b) (sym (get_or_push all new empty_set q (omega (arith, count, last)))) ∙ here in
                let same : has c.set-item.result (b - 1) ≡ has c.set-item.result b =
                same_if_none (has c.set-item.result (b - 1)) (has c.set-item.result b) (sym (c.changes.ensures.later b some low) ∙ own) in
                let is : c.set-item.result ≡ slice_index_or letters q empty_set = set ∙ ap (λ (k : ℕ). slice_index_or letters k empty_set) (sym last) in
                ap (λ (s : ByteSet). has s (b - 1)) (sym is) ∙ same ∙ ap (λ (s : ByteSet). has s b) is)
          ];
    }

pub returns-clause-changes : goal.returns-clause-changes
returns-clause-changes c = λ q b some low not.
    reads_same c.args.letters.now (b - 1) b q 0
    (λ i lt is. let same : q ≡ i = omega (arith, is) in
    ap (λ k. has (slice_index_or c.args.letters.now k empty_set) (b - 1)) (sym same)
    ∙ c.loop-set.invariant.told q b (omega (arith, lt, is, c.loop-set-test.false)) some low not
    ∙ ap (λ k. has (slice_index_or c.args.letters.now k empty_set) b) same)
