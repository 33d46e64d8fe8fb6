use Rattle.std.proofs.Common.{rules, ◌≡◌, ℕ, [], refl, ◌+◌, ◌/◌, ◌≤◌, ◌<◌, ◌∷◌, List, IfOk, length, replicate, sym, ap, subst, ◌∙◌, arith}
use Rattle.std.specs.Prelude.{take}
use Rattle.std.specs.List.{filter}
use Rattle.std.proofs.lemmas.List.{length-take}
use Rattle.lexauto.specs.Sets.{marked_by}
use Rattle.lexauto.specs.KeyPacking.{packed, with_bits, word_count}
use Rattle.lexauto.proofs.Kept.{kept_as_it_is}
use Rattle.lexauto.proofs.StepLemmas.{none_marked}
use Rattle.lexauto.proofs.PositionBits.{words_of, none_kept, used_within, bits_kept, plain_kept, length_with_bits, length_zeros}
use Rattle.lexauto.proofs.key_packing.pack_marked.Goals as goal

pub returns-then-is_empty : goal.returns-then-is_empty
returns-then-is_empty c =
    let marks = c.args.marks.now in
    let none : length marks ≡ 0 = search rules in
    subst (λ (l : List ℕ). IfOk c.behind.result (λ v. v.items ≡ l))
    (kept_as_it_is [] refl ∙ ap packed (sym (none_marked c.args.places.now marks none c.args.positions.now))) c.behind.ensures

pub returns-then-marked-eq0 : goal.returns-then-marked-eq0
returns-then-marked-eq0 c =
    let f = marked_by c.args.places.now c.args.marks.now in
    let none : length (filter f c.args.positions.now) ≡ 0 = sym c.in_ok-marked.ensures.number ∙ c.if-marked-eq0.true in
    subst (λ (l : List ℕ). IfOk c.behind-then-marked-eq0.result (λ v. v.items ≡ l)) (none_kept f c.args.positions.now c.requires none) c.behind-then-marked-eq0.ensures

pub slice_bounds-behind-end-then-used-marked : goal.slice_bounds-behind-end-then-used-marked
slice_bounds-behind-end-then-used-marked c =
    let f = marked_by c.args.places.now c.args.marks.now in
    let ps = c.args.positions.now in
    let l = filter f ps in
    let number : c.in_ok-marked.marked.number ≡ length l = c.in_ok-marked.ensures.number in
    let some : 0 < length l = omega (arith, number, c.if-marked-eq0.false) in
    let used : c.in_ok-marked.marked.last / 32 + 1 ≡ words_of l = ap (λ (n : ℕ). n / 32 + 1) c.in_ok-marked.ensures.last in
    let size : length c.deref.result.now ≡ word_count ps = ap (λ (ws : List ℕ). length ws) (c.deref.ensures.value ∙ c.in_ok-marked.ensures.words)
    ∙ length_with_bits (replicate c.word_count-count.result 0) l ∙ length_zeros c.word_count-count.result ∙ c.word_count-count.ensures in
    let within = used_within f ps c.requires some in
    omega (arith, used, size, within, length-take (c.in_ok-marked.marked.last / 32 + 1) c.deref.result.now)

pub returns-then-used-marked : goal.returns-then-used-marked
returns-then-used-marked c =
    let f = marked_by c.args.places.now c.args.marks.now in
    let ps = c.args.positions.now in
    let l = filter f ps in
    let number : c.in_ok-marked.marked.number ≡ length l = c.in_ok-marked.ensures.number in
    let some : 0 < length l = omega (arith, number, c.if-marked-eq0.false) in
    let used : c.in_ok-marked.marked.last / 32 + 1 ≡ words_of l = ap (λ (n : ℕ). n / 32 + 1) c.in_ok-marked.ensures.last in
    let count : c.word_count-count.result ≡ word_count ps = c.word_count-count.ensures in
    let few : word_count ps ≤ 512 = omega (arith, count, c.if-count-gt-MOST_WORDS.false) in
    let words : take (c.in_ok-marked.marked.last / 32 + 1) c.deref.result.now ≡ take (words_of l) (with_bits (replicate (word_count ps) 0) l) =
    ap (λ (n : ℕ). take n c.deref.result.now) used
    ∙ ap (take (words_of l)) (c.deref.ensures.value ∙ c.in_ok-marked.ensures.words ∙ ap (λ (n : ℕ). with_bits (replicate n 0) l) count) in
    subst (λ (ws : List ℕ). IfOk c.behind-then-used-marked.result (λ v. v.items ≡ ws))
    (ap (λ (ws : List ℕ). 0 ∷ ws) words ∙ bits_kept f ps c.requires some few (omega (arith, used, number, c.if-used-marked.true)))
    c.behind-then-used-marked.ensures

pub returns : goal.returns
returns c =
    let f = marked_by c.args.places.now c.args.marks.now in
    let ps = c.args.positions.now in
    let l = filter f ps in
    let number : c.in_ok-marked.marked.number ≡ length l = c.in_ok-marked.ensures.number in
    let some : 0 < length l = omega (arith, number, c.if-marked-eq0.false) in
    let used : c.in_ok-marked.marked.last / 32 + 1 ≡ words_of l = ap (λ (n : ℕ). n / 32 + 1) c.in_ok-marked.ensures.last in
    let count : c.word_count-count.result ≡ word_count ps = c.word_count-count.ensures in
    let few : word_count ps ≤ 512 = omega (arith, count, c.if-count-gt-MOST_WORDS.false) in
    let words : c.deref-2.result.now ≡ with_bits (replicate (word_count ps) 0) l =
    c.deref-2.ensures.value ∙ c.in_ok-marked.ensures.words ∙ ap (λ (n : ℕ). with_bits (replicate n 0) l) count in
    subst (λ (k : List ℕ). IfOk c.plain_of_bits.result (λ v. v.items ≡ k))
    (plain_kept f ps c.requires c.deref-2.result.now words some few (omega (arith, used, number, c.if-used-marked.false)))
    c.plain_of_bits.ensures
