use Rattle.std.proofs.lemmas.Nat.{or_lt}
use Rattle.lexre_bytes.proofs.SetLaws.{union_is}
use Rattle.lexre_bytes.proofs.sets.ByteSet.union.Goals as goal

pub invariant_of-result : goal.invariant_of-result
invariant_of-result c =
    let mine = c.self.invariant in
    let other = c.other.invariant in (
      or_lt 128 c.self.inside.low c.other.inside.low mine.0 other.0,
      or_lt 128 c.self.inside.high c.other.inside.high mine.1 other.1,
    )

pub returns : goal.returns
returns c =
    let mine = c.self.invariant in
    let other = c.other.invariant in
    rw (← c.self.view_is, ← c.other.view_is) (union_is _ _ _ _ mine.1 mine.0 other.1 other.0)
