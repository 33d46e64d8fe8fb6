use Rattle.std.proofs.Common.{◌≡◌, inl, inr, subst, arith}
use Rattle.std.proofs.lemmas.Bool.{cases_lt}
use Rattle.lexlook_specs.specs.Copied.{CopiesByte}
use Rattle.lexlook_specs.specs.Matches.{matches_in}
use Rattle.lexlook_specs.proofs.words.copying.copied_in.Goals as goal

pub loop-code-preserved : goal.loop-code-preserved
loop-code-preserved c = λ d low copied. elim (cases_lt d c.loop-code.code) [
  | inl lt ↦ c.loop-code.invariant d lt copied
  | inr le ↦
      (let e : d ≡ c.loop-code.code = omega (arith, low, le) in
      c.copies.ensures.no c.if-copies.false (subst (CopiesByte (matches_in c.args.dfa.now.parts c.args.rejects.now) c.args.condition) e copied))
]

pub returns-then-copies : goal.returns-then-copies
returns-then-copies c = (c.loop-code-test.true, c.copies.ensures.yes c.if-copies.true, c.loop-code.invariant)

pub returns : goal.returns
returns c =
    let all = c.loop-code-test.false in
    λ b low copied. c.loop-code.invariant b (omega (arith, all, low)) copied
