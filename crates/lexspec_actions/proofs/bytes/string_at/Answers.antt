use Rattle.std.proofs.Common.{sym, arith}
use Rattle.lexspec_actions.proofs.ByteLemmas.{string_first, string_next, string_ends, string_stops, string_open}
use Rattle.lexspec_actions.proofs.bytes.string_at.Goals as goal

pub loop-first-init : goal.loop-first-init
loop-first-init c = record { so = rw c.new-bytes.ensures.items (string_first _); shorter = omega arith }

pub returns-then-first-eq34-clause-string : goal.returns-then-first-eq34-clause-string
returns-then-first-eq34-clause-string c = string_ends _ _ _ _ _ c.loop-first.invariant.so c.in-Some.ensures.cases.0 c.if-first-eq34.true

pub returns-in_default-string_byte_at-clause-string : goal.returns-in_default-string_byte_at-clause-string
returns-in_default-string_byte_at-clause-string c = string_stops _ _ _ _ _ c.loop-first.invariant.so c.in-Some.ensures.cases.0 c.if-first-eq34.false (sym c.in_default-string_byte_at.ensures.byte)

pub loop-first-preserved : goal.loop-first-preserved
loop-first-preserved c =
    record {
      so = rw c.in_ok-push.ensures.items
          (string_next _ _ _ _ _ _ _ c.loop-first.invariant.so c.in-Some.ensures.cases.0 c.if-first-eq34.false (sym c.in-Some-string_byte_at.ensures.byte) c.in-Some-string_byte_at.ensures.shorter);
      shorter = omega (arith, c.in-Some-string_byte_at.ensures.shorter);
    }

pub returns-clause-string : goal.returns-clause-string
returns-clause-string c = string_open _ _ _ c.loop-first.invariant.so c.in_default.ensures.cases
