use Rattle.std.proofs.Common.{◌≡◌, inl, inr, sym, subst, arith}
use Rattle.std.proofs.lemmas.Bool.{cases_lt}
use Rattle.lex_semantics.specs.Machine.{Machine}
use Rattle.lexlook_tables.specs.Lines.{StartsAgainBy}
use Rattle.lexlook_tables.proofs.lines.discarding.starts_again.Goals as goal

pub start-first-requires : goal.start-first-requires
start-first-requires g c = (let some = (g.M.Machine.laws c.args.machine.now).some_condition in omega (arith, some))

pub bytes-preserved : goal.bytes-preserved
bytes-preserved g c = λ b lt. elim (cases_lt b c.bytes.byte) [
  | inl less ↦ c.bytes.invariant b less
  | inr more ↦ (let is : b ≡ c.bytes.byte = omega (arith, lt, more) in subst (StartsAgainBy M c.args.state) (sym is) (c.starts_again_by.ensures.yes c.if-not-starts_again_by.false))
]
  where
    M : Machine
    M = g.M.Machine.machine c.args.machine.now

pub returns-then-not-starts_again_by-clause-no : goal.returns-then-not-starts_again_by-clause-no
returns-then-not-starts_again_by-clause-no g c = λ _ all. c.starts_again_by.ensures.no c.if-not-starts_again_by.true (all c.bytes.byte (omega (arith, c.bytes-test.true)))

pub returns-clause-yes : goal.returns-clause-yes
returns-clause-yes g c = λ _ b lt. c.bytes.invariant b (omega (arith, lt, c.bytes-test.false))
