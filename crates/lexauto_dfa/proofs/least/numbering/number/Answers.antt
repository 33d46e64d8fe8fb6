use Rattle.std.proofs.Common.{rules, ◌≡◌, ℕ, List, [], ◌∷◌, ◌++◌, length, slice_index, arith, ap, ◌∙◌}
use Rattle.std.proofs.lemmas.List.{get_or_read}
use Rattle.lexauto_dfa.specs.declared.least.numbering.Numbers.{Numbers}
use Rattle.lexauto_dfa.proofs.Numbered.{few_numbers, snoc_last, snoc_length}
use Rattle.lexauto_dfa.proofs.least.numbering.number.Goals.{then-index-len+in_ok-call, else-index-len}
use Rattle.lexauto_dfa.proofs.least.numbering.number.Goals as goal

pub returns-clause-number : goal.returns-clause-number
returns-clause-number c =
    let cs = c.args.classes.now in
    let ns = c.args.numbers.now in
    let mid = c.if-index-len.numbers in
    let x = c.args.state in
    let k = c.index-2.result.now in
    let a = c.requires.numbers in
    let low = c.requires.classes x c.requires.state in
    elim c.if-index-len.branch [
      | then-index-len+in_ok-call w ↦ (
          let members : mid.members.items ≡ ns.members.items ++ x ∷ [] = ap (λ (n : Numbers). n.members.items) w.numbers-is ∙ w.in_ok-call.ensures.members in
          let slots : length mid.of_class.items ≡ length cs = ap (λ (n : Numbers). length n.of_class.items) w.numbers-is ∙ w.in_ok-call.ensures.numbers.slots in
          let is : k ≡ slice_index mid.of_class.items (slice_index cs x) = get_or_read mid.of_class.items _ _ (omega (arith, low, slots)) c.index-2.ensures 0 in
          let last : k ≡ length ns.members.items = is ∙ ap (λ (n : Numbers). slice_index n.of_class.items (slice_index cs x)) w.numbers-is ∙ w.in_ok-call.ensures.number in
          record {
            low = (let l = ap (λ (l : List ℕ). length l) members in omega (arith, last, l, snoc_length ns.members.items x));
            same = ap (λ (y : ℕ). slice_index cs y) (ap (λ (l : List ℕ). slice_index l k) members ∙ snoc_last ns.members.items x k last);
          })
      | else-index-len w ↦ (
          let members : mid.members.items ≡ ns.members.items = ap (λ (n : Numbers). n.members.items) w.numbers-is in
          let slots : length mid.of_class.items ≡ length cs = ap (λ (n : Numbers). length n.of_class.items) w.numbers-is ∙ a.slots in
          let is : k ≡ slice_index mid.of_class.items (slice_index cs x) = get_or_read mid.of_class.items _ _ (omega (arith, low, slots)) c.index-2.ensures 0 in
          let found : k ≡ slice_index ns.of_class.items (slice_index cs x) = is ∙ ap (λ (n : Numbers). slice_index n.of_class.items (slice_index cs x)) w.numbers-is in
          let test : c.index.result.now ≡ slice_index ns.of_class.items (slice_index cs x) = get_or_read ns.of_class.items _ _ (omega (arith, low, a.slots)) c.index.ensures 0 in
          let full : c.len.result ≡ length ns.members.items = search rules in
          let few = few_numbers cs ns.of_class.items ns.members.items a in
          let f = a.forth (slice_index cs x) low (omega (arith, test, full, few, w.if-index-len.false)) in
          let l = ap (λ (l : List ℕ). length l) members in
          let f0 = f.0 in
          record {
            low = omega (arith, found, l, f0);
            same = ap (λ (y : ℕ). slice_index cs y) (ap (λ (l : List ℕ). slice_index l k) members ∙ ap (λ (j : ℕ). slice_index ns.members.items j) found) ∙ f.1;
          })
    ]
