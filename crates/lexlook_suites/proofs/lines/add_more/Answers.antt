use Rattle.std.proofs.lemmas.Result.{on_ok_weaker}
use Rattle.lexlook_suites.proofs.Lined.{more_told}
use Rattle.lexlook_suites.proofs.lines.add_more.Goals as goal

pub returns : goal.returns
returns c =
    on_ok_weaker c.add-3.result (more_told c.args.more c.args.text.now.items _ _ _ c.if-more-eq0.false c.in_ok-add.ensures c.in_ok-add_count.ensures) c.add-3.ensures
