use Rattle.lexre.proofs.ReaderLaws.{unless_of}
use Rattle.lexre.proofs.QuotedLaws.{quoted_first, quoted_ends, quoted_stuck, quoted_next, quoted_open, quoted_shorter}
use Rattle.lexre.proofs.quotes.quoted_at.Goals as goal

pub loop-first-init : goal.loop-first-init
loop-first-init c = rw c.new-bytes.ensures.items (quoted_first _)

pub returns-then-first-eq34 : goal.returns-then-first-eq34
returns-then-first-eq34 c = quoted_ends _ _ _ _ _ c.loop-first.invariant c.in-Some.ensures.cases.0 c.if-first-eq34.true

pub returns-in_default-literal_byte_at : goal.returns-in_default-literal_byte_at
returns-in_default-literal_byte_at c =
    unless_of c.match-first.result.kind _ (quoted_stuck _ _ _ _ _ c.loop-first.invariant c.in-Some.ensures.cases.0 c.if-first-eq34.false c.in_default-literal_byte_at.ensures)

pub loop-first-smaller : goal.loop-first-smaller
loop-first-smaller c = quoted_shorter c.loop-first.rest.now c.in-Some-literal_byte_at.beyond.now c.in-Some-literal_byte_at.byte c.in-Some-literal_byte_at.ensures

pub loop-first-preserved : goal.loop-first-preserved
loop-first-preserved c =
    rw c.in-Ok.ensures.items
    (quoted_next _ _ _ _ _ _ _ c.loop-first.invariant c.in-Some.ensures.cases.0 c.if-first-eq34.false c.in-Some-literal_byte_at.ensures)

pub returns : goal.returns
returns c = quoted_open _ _ _ c.loop-first.invariant c.in_default.ensures.cases
