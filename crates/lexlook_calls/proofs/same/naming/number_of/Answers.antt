use Rattle.std.proofs.Common.{◌≡◌, ◌∙◌, ℕ, List, Some, map, ap, sym, subst, inl, inr, arith}
use Rattle.std.specs.Prelude.{slice_get}
use Rattle.std.specs.Borrow.{Bor}
use Rattle.std.proofs.lemmas.Bool.{cases_lt}
use Rattle.std.proofs.lemmas.List.{length-map}
use Rattle.std.proofs.lemmas.Option.{slice_get_within}
use Rattle.lexlook_tables.proofs.Lists.{in_map, from_map, at_place, one_at}
use Rattle.lexlook_calls.proofs.same.naming.number_of.Goals as goal

abbrev text : Bor (List ℕ) → List ℕ
text x = x.now

pub returns-then-is_same_name-clause-some : goal.returns-then-is_same_name-clause-some
returns-then-is_same_name-clause-some c = in_map text c.args.names.now c.loop-number.number _ (at_place c.args.names.now c.loop-number.number _ (omega (arith, c.loop-number-test.true)))
    ∙ ap Some (c.is_same_name.ensures.yes c.if-is_same_name.true)

pub loop-number-preserved : goal.loop-number-preserved
loop-number-preserved c = λ n lt at. elim (cases_lt n c.loop-number.number) [
  | inl less ↦ c.loop-number.invariant n less at
  | inr ge ↦
      let e : n ≡ c.loop-number.number = omega (arith, lt, ge) in
      let a = from_map text c.args.names.now c.loop-number.number c.args.name.now (subst (λ z. slice_get (map text c.args.names.now) z ≡ Some c.args.name.now) e at) in
      absurd (c.is_same_name.ensures.no c.if-is_same_name.false
      (ap text (one_at c.args.names.now c.loop-number.number _ a.0 (at_place c.args.names.now c.loop-number.number _ (omega (arith, c.loop-number-test.true))) a.1) ∙ sym a.2))
]

pub returns-clause-none : goal.returns-clause-none
returns-clause-none c = λ none n at. c.loop-number.invariant n (let l = slice_get_within (map text c.args.names.now) n c.args.name.now at in omega (arith, l, length-map c.args.names.now text, c.loop-number-test.false)) at
