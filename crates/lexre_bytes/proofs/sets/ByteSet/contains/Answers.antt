use Rattle.lexre_bytes.proofs.SetLaws.{contains_low, contains_high}
use Rattle.lexre_bytes.proofs.sets.ByteSet.contains.Goals as goal

pub returns-then-byte-lt128 : goal.returns-then-byte-lt128
returns-then-byte-lt128 c = rw (← c.self.view_is) (contains_low _ _ _ c.if-byte-lt128.true)

pub returns-else-byte-lt128 : goal.returns-else-byte-lt128
returns-else-byte-lt128 c = rw (← c.self.view_is) (contains_high _ _ _ c.self.invariant.0 c.if-byte-lt128.false)
