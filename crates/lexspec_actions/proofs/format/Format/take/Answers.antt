use Rattle.std.proofs.Common.{rules}
use Rattle.lexspec_actions.proofs.PartLemmas.{read_plain, read_percent, read_text, read_other, read_twice, map_none, map_some}
use Rattle.lexspec_actions.proofs.format.Format.take.Goals as goal
use Rattle.lexspec_actions.proofs.format.Format.take.Goals.{then-byte-ne115-via-then-byte-ne115, then-byte-ne115-via-else-byte-ne115+then-is_some}

pub returns-then-not-self-clause-ok : goal.returns-then-not-self-clause-ok
returns-then-not-self-clause-ok c = λ t. rw c.in_ok-push.ensures.items (read_plain _ _ _ _ t c.if-not-self.true c.if-byte-eq37.false)

pub returns-then-byte-eq37-2-clause-ok : goal.returns-then-byte-eq37-2-clause-ok
returns-then-byte-eq37-2-clause-ok c = λ t. rw c.in_ok-push-2.ensures.items (read_percent _ _ _ _ t c.if-not-self.false c.if-byte-eq37-2.true)

pub returns-then-byte-ne115-clause-err : goal.returns-then-byte-ne115-clause-err
returns-then-byte-ne115-clause-err c = λ t. elim c.then-byte-ne115.branch [
  | then-byte-ne115-via-then-byte-ne115 w ↦ read_other _ _ _ _ t c.if-not-self.false c.if-byte-eq37-2.false w.if-byte-ne115.true
  | then-byte-ne115-via-else-byte-ne115+then-is_some w ↦ read_twice _ _ _ _ t c.if-not-self.false w.if-byte-ne115.false (map_some _ _ (search rules))
]

pub returns-clause-ok : goal.returns-clause-ok
returns-clause-ok c = λ t. rw (c.replace.ensures.value, c.replace.ensures.after, c.new.ensures.items) (read_text _ _ _ _ t c.if-not-self.false c.if-byte-ne115.false (map_none _ _ (search rules)))
