use Rattle.std.proofs.Common.{◌≡◌, decimal, sym}
use Rattle.lexauto_reports.specs.ReportLines.{warning_words}
use Rattle.lexauto_reports.proofs.warned.write_warning.Goals as goal

pub returns-clause-bytes : goal.returns-clause-bytes
returns-clause-bytes g c =
    let line : decimal c.args.warning.line ≡ c.format-line.result.now = sym c.format-line.ensures.text in
    let words : warning_words c.args.warning.code ≡ c.warning_text-words.result.now = sym c.warning_text-words.ensures in
    rw (line, words) c.put_all.ensures.bytes
