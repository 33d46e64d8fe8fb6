use Rattle.std.proofs.Common.{◌*◌, ◌/◌, ◌%◌, ◌^◌, bit_or, arith}
use Rattle.std.proofs.lemmas.Nat.{or_lt, xor_lt}
use Rattle.lexre_bytes.proofs.WordLaws.{changes_first, changes_later}
use Rattle.lexre_bytes.proofs.sets.ByteSet.changes.Goals as goal

pub invariant_of-result : goal.invariant_of-result
invariant_of-result c =
    let low = c.self.inside.low in
    let high = c.self.inside.high in
    let fits = c.self.invariant in (
      xor_lt 128 low (low * 2 ^ 1 % 2 ^ 128) fits.0 (omega arith),
      xor_lt 128 high (bit_or (high * 2 ^ 1 % 2 ^ 128) (low / 2 ^ 127)) fits.1
          (or_lt 128 (high * 2 ^ 1 % 2 ^ 128) (low / 2 ^ 127) (omega arith) (omega (arith, fits.0))),
    )

pub returns-clause-first : goal.returns-clause-first
returns-clause-first c = rw (← c.self.view_is) (changes_first _ c.self.inside.high c.self.inside.low)

pub returns-clause-later : goal.returns-clause-later
returns-clause-later c = λ b some byte. rw (← c.self.view_is) (changes_later c.self.inside.high c.self.inside.low b c.self.invariant.0 some byte)
