use Rattle.std.proofs.Common.{◌≡◌, ◌<◌, ◌∙◌, ◌++◌, ◌∷◌, [], ℕ, List, length, map, ap, sym, subst, inl, inr, get_or, arith}
use Rattle.std.specs.Prelude.{slice_get}
use Rattle.std.specs.Borrow.{Bor}
use Rattle.std.proofs.lemmas.Bool.{cases_lt}
use Rattle.std.proofs.lemmas.List.{length-append, length-map}
use Rattle.lexlook_tables.specs.Same.{number_in}
use Rattle.lexlook_tables.proofs.Lists.{in_map, at_place}
use Rattle.lexlook_calls.proofs.Sided.{left_of, last_of}
use Rattle.lexlook_calls.proofs.same.naming.order_of.Goals as goal

abbrev text : Bor (List ℕ) → List ℕ
text x = x.now

pub returns-in-None-clause-none : goal.returns-in-None-clause-none
returns-in-None-clause-none c = λ none order h. c.number_of.ensures.none c.in-None.is (number_in order c.loop-name.name-index)
    (h.named c.loop-name.name-index (omega (arith, c.loop-name-test.true, length-map c.args.names.now text)) ∙ in_map text c.args.names.now c.loop-name.name-index _ (at_place c.args.names.now c.loop-name.name-index _ (omega (arith, c.loop-name-test.true))))

pub loop-name-preserved : goal.loop-name-preserved
loop-name-preserved c = record {
  long = omega (arith, ap length items, length-append old (n ∷ []), c.loop-name.invariant.long);
  named = λ i lt. elim (cases_lt i k) [ inl less ↦ before i less | inr ge ↦ subst (λ z. slice_get (map text c.args.others.now) (get_or c.push.new.self.items z z) ≡ slice_get (map text c.args.names.now) z) (omega (arith, lt, ge)) here ];
}
  where
    k : ℕ
    k = c.loop-name.name-index

    old : List ℕ
    old = c.loop-name.order.items

    n : ℕ
    n = c.in-Some.number

    items : c.push.new.self.items ≡ old ++ n ∷ []
    items = c.in_ok-push-in-Some.ensures.items

    before : (i : ℕ) → i < k → slice_get (map text c.args.others.now) (get_or c.push.new.self.items i i) ≡ slice_get (map text c.args.names.now) i
    before i less = ap (slice_get (map text c.args.others.now)) (ap (λ l. get_or l i i) items ∙ left_of old n i i (omega (arith, less, c.loop-name.invariant.long))) ∙ c.loop-name.invariant.named i less

    last : get_or (old ++ n ∷ []) k k ≡ n
    last = subst (λ z. get_or (old ++ n ∷ []) z z ≡ n) c.loop-name.invariant.long (last_of old n (length old))

    here : slice_get (map text c.args.others.now) (get_or c.push.new.self.items k k) ≡ slice_get (map text c.args.names.now) k
    here = ap (slice_get (map text c.args.others.now)) (ap (λ l. get_or l k k) items ∙ last) ∙ c.in-Some.ensures.some ∙ sym (in_map text c.args.names.now k _ (at_place c.args.names.now k _ (omega (arith, c.loop-name-test.true))))
