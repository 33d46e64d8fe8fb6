-- The worked examples of tokens that are told ahead.
use Rattle.std.proofs.Common.{◌≡◌, ℕ, ◌+◌, ◌-◌, ◌≤◌, List, [], ◌∷◌, length, drop, take, refl, sym, ap, subst, ◌∙◌, arith}
use Rattle.std.specs.Prelude.{codes, count_by, ◌==◌}
use Rattle.lexscan.specs.Pulls.{TokensTold}
use Rattle.lexscan.specs.Series.{drawn_out}
use Rattle.lexscan.specs.declared.token.Token.{Token}
use Rattle.liblex_calls.specs.Ahead.{tokens_ahead}
use Rattle.liblex_calls.specs.AheadExamples.{StandsAhead, three, first, second, third, KeptBytes, HandedNext, ToldAhead}
use Rattle.liblex_calls.specs.declared.ahead.Ahead.{Ahead}

pub kept : KeptBytes
kept = record {
  last_bytes = λ t k. record { bytes_are = k.1 ∙ sym (ap (λ n. drop n (codes "abcdef")) k.0); size = λ i. k.0 i + length (k.1 i) };
  all_bytes = λ t k. record { bytes_are = k.1 ∙ sym (ap (λ n. drop n (codes "abcdef")) k.0); size = λ i. k.0 i + length (k.1 i) };
  first_bytes = λ t k h. (let size : t.before + length t.bytes.items ≡ 6 = h.size in let few : length t.bytes.items ≡ 4 = ap length k.1 in let none = k.0 in omega (arith, size, few, none));
  other_bytes = λ t k h. (let same : codes "abcd" ≡ codes "cdef" = sym k.1 ∙ h.bytes_are ∙ ap (λ n. drop n (codes "abcdef")) k.0 in let more : 1 ≡ 0 = ap (count_by (λ b. b == 97)) same in omega (arith, more));
  text = λ t k. λ i. take 2 (drop (3 - k.0 i) (k.1 i));
}

pub next : HandedNext
next = record {
  left = λ a k. λ i. drawn_out (k.2 i) (drop (k.1 i) (k.0 i));
  all_left = λ a k. λ i. drawn_out (k.2 i) (drop (k.1 i) (k.0 i));
  none_left = λ a k. λ i. drawn_out (k.2 i) (drop (k.1 i) (k.0 i));
  on = λ a b k m texts. (
    (
        let before : tokens_ahead a ≡ second ∷ third ∷ [] = λ i. drawn_out (k.2 i) (drop (k.1 i) (k.0 i)) in
        let after : tokens_ahead b ≡ third ∷ [] = λ i. drawn_out (m.2 i) (drop (m.1 i) (m.0 i)) in
        before ∙ ap (λ (l : List Token). second ∷ l) (sym after)
        ),
    sym k.2,
    m.2,
    m.3,
    (let given = m.1 in omega (arith, given)),
    texts,
  );
  twice = λ a b k m h. (let here : b.start ≡ 9 = h.2 in let there = m.2 in omega (arith, here, there));
  left_out = λ a b k m h. (let here : b.start ≡ 9 = h.2 in let there = m.2 in omega (arith, here, there));
  not_none = λ a b k h. (let before : tokens_ahead a ≡ second ∷ third ∷ [] = λ i. drawn_out (k.2 i) (drop (k.1 i) (k.0 i)) in let size : 2 ≡ 0 = ap length (sym before ∙ h.1) in omega (arith, size));
}

pub told : ToldAhead
told = record {
  all = λ M fed waiting told s a k h. (let before : tokens_ahead a ≡ second ∷ third ∷ [] = λ i. drawn_out (k.2 i) (drop (k.1 i) (k.0 i)) in subst (λ (l : List Token). TokensTold M fed told l s waiting) (ap (λ (l : List Token). first ∷ l) before) h.all);
  handed_on = λ M fed waiting told s a x h c. h.handed x c;
  begins = λ M fed waiting told s a h. h.last_is;
  kept = λ M fed waiting told s a far h. (let low = h.low in let last : a.last ≡ 4 = h.last_is in omega (arith, far, low, last));
  inside = λ M waiting told s a k h. (let some : 1 ≤ a.given = (let given = k.1 in omega (arith, given)) in let few : a.start - a.last ≤ 5 - a.last = h.inside some in let start = k.2 in let last = k.3 in omega (arith, few, start, last));
}
