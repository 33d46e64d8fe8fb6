use Rattle.lexspec_lines.proofs.RunLaws.{line_found}
use Rattle.lexspec_lines.proofs.lines.split_line.Goals as goal

pub returns-clause-line : goal.returns-clause-line
returns-clause-line c =
    rw c.skip_first.ensures
    (line_found c.args.text.now _ _ c.find_byte.result c.unwrap_or-at.result c.find_byte.ensures c.unwrap_or-at.ensures c.split_at.ensures.front c.split_at.ensures.back)
