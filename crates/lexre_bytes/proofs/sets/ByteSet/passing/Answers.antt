use Rattle.std.proofs.Common.{◌≡◌, ◌+◌, sym, ◌∙◌, arith}
use Rattle.lexre_bytes.proofs.SetLaws.{none_below, after_in, after_out, one_shifted, halves_are}
use Rattle.lexre_bytes.proofs.sets.ByteSet.passing.Goals as goal
use Rattle.lexre_bytes.proofs.sets.ByteSet.passing.Goals.{then-test, else-test, then-test-2, else-test-2}

pub loop-byte-init : goal.loop-byte-init
loop-byte-init g c = (c.requires, λ p h. (none_below p, none_below _))

pub loop-byte-preserved : goal.loop-byte-preserved
loop-byte-preserved g c = (
  c.loop-byte.invariant.0,
  λ p h.
      let had = c.loop-byte.invariant.1 p h in
      let low_test = h c.loop-byte.byte c.test.result (omega arith) c.test.ensures in
      let high_test = h (c.loop-byte.byte + 128) c.test-in-loop-byte.result (omega arith) c.test-in-loop-byte.ensures in
      let shift = one_shifted c.loop-byte.byte (omega arith) in (
        elim c.if-test.branch [
          | then-test w ↦ after_in _ p _ _ _ had.0 (sym w.if-test.true ∙ low_test) shift w.low-is
          | else-test w ↦ after_out _ p _ _ had.0 (sym w.if-test.false ∙ low_test) w.low-is
        ],
        elim c.if-test-2.branch [
          | then-test-2 w ↦ after_in _ (λ b. p (b + 128)) _ _ _ had.1 (sym w.if-test-2.true ∙ high_test) shift w.high-is
          | else-test-2 w ↦ after_out _ (λ b. p (b + 128)) _ _ had.1 (sym w.if-test-2.false ∙ high_test) w.high-is
        ],
      ),
)

pub returns : goal.returns
returns g c p h =
    let had = c.loop-byte.invariant.1 p h in
    let all : c.loop-byte.byte ≡ 128 = omega arith in
    rw (had.0, had.1, all) (halves_are p)
