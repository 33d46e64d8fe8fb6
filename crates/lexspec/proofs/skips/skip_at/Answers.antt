use Rattle.std.proofs.Common.{sym}
use Rattle.lexspec.proofs.SkipLaws.{block_item, block_left_open}
use Rattle.lexspec.proofs.skips.skip_at.Goals as goal

pub returns-in-Some-clause-found : goal.returns-in-Some-clause-found
returns-in-Some-clause-found c =
    block_item c.args.text.now _ _ c.in-Some.rest.now _ c.requires.some c.split_line.ensures.line c.starts_with.ensures.value c.if-not-starts_with.false (sym c.in-Some.ensures.after)

pub returns-in-None-clause-none : goal.returns-in-None-clause-none
returns-in-None-clause-none c =
    block_left_open c.args.text.now _ _ _ c.requires.some c.split_line.ensures.line c.starts_with.ensures.value c.if-not-starts_with.false (sym c.in-None.ensures.after)
