use Rattle.std.proofs.Common.{◌≡◌, ◌<◌, ℕ, Bool, true, false, inl, inr, refl, sym, subst, arith}
use Rattle.std.proofs.lemmas.Bool.{cases_lt, cases_eq, cases_Bool}
use Rattle.lexlook_specs.specs.Placing.{MeetsAfter}
use Rattle.lexlook_specs.specs.Words.{StartsFirst}
use Rattle.lexlook_specs.proofs.words.starting.first_start.Goals as goal

clash : (b : Bool) → b ≡ false → b ≡ true → ⊥
clash b f t = absurd cc

-- a start that is not before this condition
later : (P : ℕ → Bool → Type 0) (c : ℕ) (line : Bool) → ((d : ℕ) (l : Bool) → d < c → P d l → ⊥) → ((l : Bool) → line ≡ true → P c l → l ≡ true)
    → (d : ℕ) (l : Bool) → P d l → StartsFirst c line d l
later P c line none here d l h = elim (cases_lt c d) [
  | inl lt ↦ inl lt
  | inr le ↦ elim (cases_eq c d) [
    | inl e ↦ inr (e, λ t. here l t (subst (λ k. P k l) (sym e) h))
    | inr ne ↦ absurd (none d l (omega (arith, le, ne)) h)
  ]
]

pub returns-then-meets_after : goal.returns-then-meets_after
returns-then-meets_after c = (
  c.loop-condition-test.true,
  c.meets_after.ensures.yes c.if-meets_after.true,
  λ d l low h. later (MeetsAfter c.args.dfa.now.parts c.args.rejects.now c.args.text.now c.args.wish) c.loop-condition.condition false c.loop-condition.invariant (λ b t m. absurd (clash false refl t)) d l h,
)

pub returns-then-meets_after-2 : goal.returns-then-meets_after-2
returns-then-meets_after-2 c = (
  c.loop-condition-test.true,
  c.meets_after-in-loop-condition.ensures.yes c.if-meets_after-2.true,
  λ d l low h. later (MeetsAfter c.args.dfa.now.parts c.args.rejects.now c.args.text.now c.args.wish) c.loop-condition.condition true c.loop-condition.invariant
      (λ b t m. elim (cases_Bool b) [ inl y ↦ y | inr n ↦ absurd (c.meets_after.ensures.no c.if-meets_after.false (subst (MeetsAfter c.args.dfa.now.parts c.args.rejects.now c.args.text.now c.args.wish c.loop-condition.condition) n m)) ]) d l h,
)

pub loop-condition-preserved : goal.loop-condition-preserved
loop-condition-preserved c = λ d l low h. elim (cases_lt d c.loop-condition.condition) [
  | inl lt ↦ c.loop-condition.invariant d l lt h
  | inr le ↦ (let e : d ≡ c.loop-condition.condition = omega (arith, low, le) in
      let at = subst (λ k. MeetsAfter c.args.dfa.now.parts c.args.rejects.now c.args.text.now c.args.wish k l) e h in
      elim (cases_Bool l) [
        | inl t ↦ c.meets_after-in-loop-condition.ensures.no c.if-meets_after-2.false (subst (MeetsAfter c.args.dfa.now.parts c.args.rejects.now c.args.text.now c.args.wish c.loop-condition.condition) t at)
        | inr f ↦ c.meets_after.ensures.no c.if-meets_after.false (subst (MeetsAfter c.args.dfa.now.parts c.args.rejects.now c.args.text.now c.args.wish c.loop-condition.condition) f at)
      ])
]

pub returns : goal.returns
returns c = λ d l low h. (let end = c.loop-condition-test.false in c.loop-condition.invariant d l (omega (arith, low, end)) h)
