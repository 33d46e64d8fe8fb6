use Rattle.std.proofs.Common.{◌≡◌, ◌+◌, ◌-◌, inl, inr, ap, ◌∙◌, arith}
use Rattle.std.proofs.lemmas.Bool.{cases_lt}
use Rattle.std.specs.Int.{bit_at}
use Rattle.lexre_bytes.proofs.WordLaws.{low_out, low_in, high_out, high_in}
use Rattle.lexre_bytes.proofs.sets.ByteSet.first_after.Goals as goal

pub returns-then-byte-ge128-clause-none : goal.returns-then-byte-ge128-clause-none
returns-then-byte-ge128-clause-none c = λ b after low.
    let large = c.if-byte-ge128.true in
    let none = c.next_one.ensures.none (b - 128) (omega (arith, after, large)) (omega (arith, after, low, large)) in
    rw (← c.self.view_is) (high_out c.self.inside.high c.self.inside.low b c.self.invariant.0 (omega (arith, after, large)) none)

pub returns-then-byte-ge128-clause-there : goal.returns-then-byte-ge128-clause-there
returns-then-byte-ge128-clause-there c = λ low.
    let place : 128 + c.next_one.result - 128 ≡ c.next_one.result = omega arith in
    let one = ap (bit_at c.self.inside.high) place ∙ c.next_one.ensures.one (omega (arith, low)) in
    rw (← c.self.view_is) (high_in c.self.inside.high c.self.inside.low (128 + c.next_one.result) c.self.invariant.0 (omega arith) one)

pub returns-then-place-lt128-clause-none : goal.returns-then-place-lt128-clause-none
returns-then-place-lt128-clause-none c = λ b after low.
    rw (← c.self.view_is) (low_out c.self.inside.high c.self.inside.low b (omega (arith, low, c.if-place-lt128.true)) (c.next_one-place.ensures.none b after low))

pub returns-then-place-lt128-clause-there : goal.returns-then-place-lt128-clause-there
returns-then-place-lt128-clause-there c = λ low.
    let place = c.if-place-lt128.true in
    rw (← c.self.view_is) (low_in c.self.inside.high c.self.inside.low c.next_one-place.result place (c.next_one-place.ensures.one place))

pub returns-clause-none : goal.returns-clause-none
returns-clause-none c = λ b after low.
    let past = c.if-place-lt128.false in
    elim (cases_lt b 128) [
      | inl small ↦ rw (← c.self.view_is) (low_out c.self.inside.high c.self.inside.low b small (c.next_one-place.ensures.none b after (omega (arith, small, past))))
      | inr large ↦ rw (← c.self.view_is) (high_out c.self.inside.high c.self.inside.low b c.self.invariant.0 large (c.first_one.ensures.none (b - 128) (omega (arith, large, low))))
    ]

pub returns-clause-there : goal.returns-clause-there
returns-clause-there c = λ low.
    let place : 128 + c.first_one.result - 128 ≡ c.first_one.result = omega arith in
    let one = ap (bit_at c.self.inside.high) place ∙ c.first_one.ensures.one (omega (arith, low)) in
    rw (← c.self.view_is) (high_in c.self.inside.high c.self.inside.low (128 + c.first_one.result) c.self.invariant.0 (omega arith) one)
