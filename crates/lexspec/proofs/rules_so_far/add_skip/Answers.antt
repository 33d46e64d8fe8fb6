use Rattle.std.proofs.Common.{ap}
use Rattle.lexspec_lines.proofs.OutcomeLaws.{on_ok}
use Rattle.lexspec_lines.proofs.CodeLaws.{adds_same, adds_line, adds_block}
use Rattle.lexspec.specs.SkipViews.{item_of}
use Rattle.lexspec.proofs.rules_so_far.add_skip.Goals as goal

pub returns-in-Blank : goal.returns-in-Blank
returns-in-Blank c = rw (ap item_of c.in-Blank.is) (adds_same c.args.skipped.now)

pub returns-in-Code : goal.returns-in-Code
returns-in-Code c =
    on_ok c.add_line.result _ _ _ (λ lines next. rw (ap item_of c.in-Code.is) (adds_line c.args.skipped.now _ c.args.line lines next)) c.add_line.ensures.lines c.add_line.ensures.next

pub returns-in-Block : goal.returns-in-Block
returns-in-Block c =
    on_ok c.add_block.result _ _ _ (λ lines same. rw (ap item_of c.in-Block.is) (adds_block c.args.skipped.now _ c.args.line lines c.add_block.ensures.next)) c.add_block.ensures.lines c.add_block.ensures.lines
