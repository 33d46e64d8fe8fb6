use Rattle.std.specs.Prelude.{codes}
use Rattle.std.proofs.lemmas.Result.{on_ok_weaker}
use Rattle.lexlook_specs.proofs.Joining.{in_six}
use Rattle.lexlook_counts.specs.CountLines.{column, counted_subject, last_columns}
use Rattle.lexlook_counts.specs.declared.lines.LineKind.TheVariants as kinds
use Rattle.lexlook_counts.proofs.lines.add_columns.Goals as goal

pub returns : goal.returns
returns c =
    let n = c.args.count in
    on_ok_weaker c.add.result
    (in_six c.args.text.now.items (column n.matches) (column n.bytes) (column n.longest) (last_columns n.beyond c.args.given_up) (counted_subject kinds.Matched c.args.subject) (codes "\n") _ _ _ _ _ _
    c.in_ok-add_column.ensures c.in_ok-add_column-2.ensures c.in_ok-add_column-3.ensures c.in_ok-add_last_columns.ensures c.in_ok-add_subject.ensures)
    c.add.ensures
