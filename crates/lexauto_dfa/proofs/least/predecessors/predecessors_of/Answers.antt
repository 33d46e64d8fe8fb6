use Rattle.std.proofs.Common.{rules, ◌≡◌, ℕ, ◌<◌, List, length, slice_index, inl, inr, sym, ap, subst, ◌∙◌, arith}
use Rattle.std.proofs.lemmas.Bool.{cases_lt}
use Rattle.lexauto_dfa.specs.declared.least.predecessors.Predecessors.{Predecessors}
use Rattle.lexauto_dfa.specs.Letters.{row_of}
use Rattle.lexauto_dfa.specs.Predecessors.{Allows, AreBelow, known_of}
use Rattle.lexauto_dfa.proofs.Preceding.{written}
use Rattle.lexauto_dfa.proofs.Rounds.{row_is}
use Rattle.lexauto_dfa.proofs.least.predecessors.predecessors_of.Goals as goal

pub add_row-requires-clause-few : goal.add_row-requires-clause-few
add_row-requires-clause-few c =
    let letters = c.args.letters.now in
    let k = c.loop-letter.letter-index in
    let low : k < length letters = search rules in
    let row : row_of letters k ≡ c.deref.result.now =
    row_is letters k c.letter-item.result low c.letter-item.is ∙ sym c.deref.ensures.value in
    let len = sym (ap (λ (xs : List ℕ). length xs) row) ∙ c.requires.rows k low in
    let few = c.requires.few in
    omega (arith, len, few)

pub add_row-requires-clause-len : goal.add_row-requires-clause-len
add_row-requires-clause-len c =
    let letters = c.args.letters.now in
    let k = c.loop-letter.letter-index in
    let low : k < length letters = search rules in
    let row : row_of letters k ≡ c.deref.result.now =
    row_is letters k c.letter-item.result low c.letter-item.is ∙ sym c.deref.ensures.value in
    ap (λ (xs : List Predecessors). length xs) c.deref_mut.ensures.value ∙ c.loop-letter.invariant.len
    ∙ sym (sym (ap (λ (xs : List ℕ). length xs) row) ∙ c.requires.rows k low)

pub add_row-requires-clause-below : goal.add_row-requires-clause-below
add_row-requires-clause-below c =
    let letters = c.args.letters.now in
    let k = c.loop-letter.letter-index in
    let low : k < length letters = search rules in
    let row : row_of letters k ≡ c.deref.result.now =
    row_is letters k c.letter-item.result low c.letter-item.is ∙ sym c.deref.ensures.value in
    let len = sym (ap (λ (xs : List ℕ). length xs) row) ∙ c.requires.rows k low in
    subst (λ (n : ℕ). AreBelow n c.deref_mut.result.now) (sym len)
    (subst (λ (xs : List Predecessors). AreBelow c.args.states xs) (sym c.deref_mut.ensures.value) c.loop-letter.invariant.below)

pub loop-letter-preserved : goal.loop-letter-preserved
loop-letter-preserved c =
    let letters = c.args.letters.now in
    let k = c.loop-letter.letter-index in
    let low : k < length letters = search rules in
    let row : row_of letters k ≡ c.deref.result.now =
    row_is letters k c.letter-item.result low c.letter-item.is ∙ sym c.deref.ensures.value in
    let states = sym (ap (λ (xs : List ℕ). length xs) row) ∙ c.requires.rows k low in
    let e = c.add_row.ensures in
    let v = c.loop-letter.invariant in
    let old : List Predecessors = c.loop-letter.known.items in
    let new : List Predecessors = c.add_row.new.known in
    let len : length old ≡ c.loop-letter.known.len = search rules in
    let same : length new ≡ length old = e.len ∙ ap (λ (xs : List Predecessors). length xs) c.deref_mut.ensures.value in
    let is = sym (written old new c.loop-letter.known.len same len) in
    record {
      len = ap (λ (xs : List Predecessors). length xs) (sym is) ∙ same ∙ v.len;
      below = subst (λ (xs : List Predecessors). AreBelow c.args.states xs) is (subst (λ (n : ℕ). AreBelow n new) states e.below);
      allow = λ a x less h. subst (λ (xs : List Predecessors). Allows (known_of xs (slice_index (row_of letters a) x)) x) is (elim (cases_lt a k) [
        | inl earlier ↦ e.keeps (slice_index (row_of letters a) x) x
            (subst (λ (xs : List Predecessors). Allows (known_of xs (slice_index (row_of letters a) x)) x) (sym c.deref_mut.ensures.value) (v.allow a x earlier h))
        | inr not ↦ (let now : k ≡ a = omega (arith, less, not) in
            subst (λ (n : ℕ). Allows (known_of new (slice_index (row_of letters n) x)) x) now
            (subst (λ (xs : List ℕ). Allows (known_of new (slice_index xs x)) x) (sym row) (e.allows x (omega (arith, states, h)))))
      ]);
    }
