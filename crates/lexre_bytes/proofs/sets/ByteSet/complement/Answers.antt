use Rattle.lexre_bytes.proofs.SetLaws.{complement_is}
use Rattle.lexre_bytes.proofs.sets.ByteSet.complement.Goals as goal

pub returns : goal.returns
returns c =
    let mine = c.self.invariant in
    rw (← c.self.view_is) (complement_is _ _ mine.1 mine.0)
