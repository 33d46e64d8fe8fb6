use Rattle.std.proofs.Common.{arith, ◌∙◌}
use Rattle.lexre_bytes.proofs.UnreadLaws.{escape_left, other_left, escape_told, newline_told, nothing_told}
use Rattle.lexre_bytes.proofs.QuoteLaws.{escape_shorter, closing_at, newline_at, nothing_at, bad_escape_at, escape_passed, other_passed}
use Rattle.lexre.proofs.quotes.skip_quoted.Goals as goal
use Rattle.lexre.proofs.quotes.skip_quoted.Goals.{in-Some+else-byte-eq34+then-byte-eq10, in_default}

pub returns-then-byte-eq34-clause-found : goal.returns-then-byte-eq34-clause-found
returns-then-byte-eq34-clause-found c = closing_at _ _ _ _ c.loop-byte.invariant.after c.in-Some.ensures.cases.0 c.if-byte-eq34.true

pub returns-in_default-escape_at-clause-found : goal.returns-in_default-escape_at-clause-found
returns-in_default-escape_at-clause-found c = bad_escape_at _ _ _ _ c.loop-byte.invariant.after c.in-Some.ensures.cases.0 c.if-byte-eq92.true c.in_default-escape_at.ensures

pub loop-byte-smaller-then-byte-eq92 : goal.loop-byte-smaller-then-byte-eq92
loop-byte-smaller-then-byte-eq92 c = omega (arith, escape_shorter _ _ _ c.in-Some-escape_at.ensures, c.in-Some.ensures.cases.1)

pub loop-byte-preserved-then-byte-eq92 : goal.loop-byte-preserved-then-byte-eq92
loop-byte-preserved-then-byte-eq92 c = record { after = escape_passed _ _ _ _ _ _ c.loop-byte.invariant.after c.in-Some.ensures.cases.0 c.if-byte-eq92.true c.in-Some-escape_at.ensures; left = c.loop-byte.invariant.left ∙ escape_left _ _ _ _ _ c.in-Some.ensures.cases.0 c.if-byte-eq92.true c.in-Some-escape_at.ensures }

pub loop-byte-preserved : goal.loop-byte-preserved
loop-byte-preserved c = record { after = other_passed _ _ _ _ c.loop-byte.invariant.after c.in-Some.ensures.cases.0 c.if-byte-eq34.false c.if-byte-eq10.false c.if-byte-eq92.false; left = c.loop-byte.invariant.left ∙ other_left _ _ _ c.in-Some.ensures.cases.0 c.if-byte-eq10.false c.if-byte-eq92.false }

pub returns-clause-found : goal.returns-clause-found
returns-clause-found c = elim c.match-split_first.branch [
  | in-Some+else-byte-eq34+then-byte-eq10 w ↦ newline_at _ _ _ _ c.loop-byte.invariant.after w.in-Some.ensures.cases.0 w.if-byte-eq10.true
  | in_default w ↦ nothing_at _ _ c.loop-byte.invariant.after w.in_default.ensures.cases
]

pub returns-in_default-escape_at-clause-told : goal.returns-in_default-escape_at-clause-told
returns-in_default-escape_at-clause-told c = escape_told _ _ _ _ _ c.loop-byte.invariant.left c.in-Some.ensures.cases.0 c.if-byte-eq92.true c.in_default-escape_at.ensures

pub returns-clause-told : goal.returns-clause-told
returns-clause-told c = elim c.match-split_first.branch [
  | in-Some+else-byte-eq34+then-byte-eq10 w ↦ newline_told _ _ _ _ _ c.loop-byte.invariant.left w.in-Some.ensures.cases.0 w.if-byte-eq10.true
  | in_default w ↦ nothing_told _ _ _ c.loop-byte.invariant.left w.in_default.ensures.cases
]
