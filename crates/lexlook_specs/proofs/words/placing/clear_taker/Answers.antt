use Rattle.std.proofs.Common.{◌≡◌, ◌⊎◌, ◌↔◌, ◌<◌, ℕ, Bool, false, List, length, set, Option, Some, inl, inr, sym, ap, subst, ◌∙◌, arith}
use Rattle.std.proofs.lemmas.Bool.{cases_eq}
use Rattle.std.proofs.lemmas.List.{get_or-set_same, get_or-set_other}
use Rattle.lex_semantics.specs.Text.{Among, flag}
use Rattle.lexlook_specs.specs.Placing.{takers}
use Rattle.lexlook_specs.proofs.Takers.{takers_among}
use Rattle.lexlook_specs.proofs.words.placing.clear_taker.Goals as goal

same_some : (o : Option ℕ) (i j : ℕ) → o ≡ Some i → o ≡ Some j → i ≡ j
same_some o i j e f = cc

-- one flag is cleared
cleared : (flags : List Bool) (k : ℕ) (Q : ℕ → Type 0) → k < length flags → Q k → ((j : ℕ) → Q j → j ≡ k) → (j : ℕ) → (flag (set flags k false) j ≡ false) ↔ ((flag flags j ≡ false) ⊎ Q j)
cleared flags k Q low here only j = elim (cases_eq j k) [
  | inl e ↦ (λ f. inr (subst Q (sym e) here), λ h. ap (λ i. flag (set flags k false) i) e ∙ get_or-set_same flags k false false low)
  | inr other ↦ (
    λ f. inl (sym (get_or-set_other flags k j false false other) ∙ f),
    λ h. elim h [ inl f ↦ get_or-set_other flags k j false false other ∙ f | inr q ↦ absurd (other (only j q)) ],
  )
]

pub bounds-free-other : goal.bounds-free-other
bounds-free-other c =
    let known = c.requires.known c.in-Some.other (takers_among c.args.rejects.now c.args.rules.now c.in-Some.other c.in-Some.ensures.some.0) in
    let len = c.requires.len in
    omega (arith, known, len)

pub returns-in-Some-clause-cleared : goal.returns-in-Some-clause-cleared
returns-in-Some-clause-cleared c =
    let rejects = c.args.rejects.now in
    let rules = c.args.rules.now in
    let known = c.requires.known c.in-Some.other (takers_among rejects rules c.in-Some.other c.in-Some.ensures.some.0) in
    let len = c.requires.len in
    cleared c.args.free.now c.in-Some.other (λ j. Among rules c.args.rule × Among (takers rejects rules) j × (flag rejects j ≡ false)) (omega (arith, known, len))
    (c.has.ensures.yes c.if-has.true, c.in-Some.ensures.some.0, c.in-Some.ensures.some.1)
    (λ j q. same_some c.taker.result j c.in-Some.other (c.taker.ensures.only j q.1 q.2) c.in-Some.is)

pub returns-else-has-clause-cleared : goal.returns-else-has-clause-cleared
returns-else-has-clause-cleared c = λ j. (
  λ f. inl f,
  λ h. elim h [ inl f ↦ f | inr m ↦ absurd (c.has.ensures.no c.if-has.false m.0) ],
)
