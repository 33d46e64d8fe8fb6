use Rattle.std.proofs.Common.{◌≡◌, ◌+◌, ◌-◌, ◌/◌, ◌^◌, inl, inr, sym, ap, ◌∙◌, arith}
use Rattle.std.proofs.lemmas.Bool.{cases_lt}
use Rattle.std.specs.Int.{bit_at}
use Rattle.std.proofs.lemmas.Nat.{shr_le}
use Rattle.std.proofs.lemmas.Nat.Bits.{bit_at-zero, same_from_bits_below}
use Rattle.lexre_bytes.proofs.WordLaws.{bit_after, bits_after, none_past}
use Rattle.lexre_bytes.proofs.words.next_one.Goals as goal

pub returns-then-rest-eq0-clause-none : goal.returns-then-rest-eq0-clause-none
returns-then-rest-eq0-clause-none c = λ i after low.
    bit_after c.args.word c.args.bit i after ∙ ap (λ x. bit_at x (i - c.args.bit - 1)) c.if-rest-eq0.true ∙ bit_at-zero (i - c.args.bit - 1)

pub returns-clause-within : goal.returns-clause-within
returns-clause-within c = elim (cases_lt c.first_one.result 128) [
  | inl low ↦
      (let one = c.first_one.ensures.one low in
      let whole = sym (bits_after c.args.word c.args.bit c.first_one.result) ∙ one in
      omega (arith, c.from.ensures, none_past c.args.word (c.args.bit + 1 + c.first_one.result) c.ranges.word.fits whole))
  | inr high ↦
      (let rest = c.args.word / 2 ^ c.args.bit / 2 in
      let none : rest ≡ 0 = same_from_bits_below 128 rest 0 (omega (arith, shr_le c.args.word c.args.bit, c.ranges.word.fits)) (omega arith)
      (λ i low. c.first_one.ensures.none i (omega (arith, low, high)) ∙ sym (bit_at-zero i)) in
      absurd (c.if-rest-eq0.false none))
]

pub returns-clause-none : goal.returns-clause-none
returns-clause-none c = λ i after low.
    bit_after c.args.word c.args.bit i after ∙ c.first_one.ensures.none (i - c.args.bit - 1) (omega (arith, after, low, c.from.ensures))

pub returns-clause-one : goal.returns-clause-one
returns-clause-one c = λ low.
    ap (λ k. bit_at c.args.word (k + 1 + c.first_one.result)) c.from.ensures
    ∙ sym (bits_after c.args.word c.args.bit c.first_one.result) ∙ c.first_one.ensures.one (omega (arith, low))
