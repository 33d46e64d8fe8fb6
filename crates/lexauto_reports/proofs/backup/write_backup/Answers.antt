use Rattle.std.proofs.Common.{◌≡◌, ◌∷◌, [], codes, decimal, sym, ◌++◌, ◌+◌, ◌∙◌, arith, drop, length, ap, List, ℕ, flat_map}
use Rattle.lexauto_reports.proofs.Parts.{stopped_at, written_at, longer, appended_after, no_part}
use Rattle.lexauto_reports.specs.ReportLines.{backup_line, backup_lines, count_line}
use Rattle.lexauto_reports.proofs.backup.write_backup.Goals as goal

pub returns-in-Err-clause-bytes : goal.returns-in-Err-clause-bytes
returns-in-Err-clause-bytes g c =
    let so_far = c.loop-entry.invariant.0 in
    let some = c.in-Err.ensures.bytes in
    let i = c.loop-entry.entry-index in (
      so_far.0 ++ some.0,
      ((some.1.0 ++ flat_map backup_line (drop (i + 1) c.args.entries.now)) ++ count_line (length c.args.entries.now), longer _ (so_far.0 ++ some.0) _ (count_line (length c.args.entries.now)) (stopped_at backup_line _ so_far.0 _ some.0 some.1.0 c.args.entries.now i _ c.loop-entry-test.true (ap backup_line c.entry-item.is) so_far.2 some.1.1)),
      g.met.K.Sink.wrote_more _ _ _ _ _ so_far.1 some.2,
    )

pub loop-entry-preserved : goal.loop-entry-preserved
loop-entry-preserved g c =
    let so_far = c.loop-entry.invariant.0 in (
      (so_far.0 ++ _, g.met.K.Sink.wrote_more _ _ _ _ _ so_far.1 c.in_default.ensures.bytes, written_at backup_line _ so_far.0 _ c.args.entries.now c.loop-entry.entry-index _ c.loop-entry-test.true (ap backup_line c.entry-item.is) so_far.2),
      omega (arith, c.in_default.ensures.failures, c.loop-entry.invariant.1),
    )

pub returns-clause-bytes : goal.returns-clause-bytes
returns-clause-bytes g c =
    let so_far = c.loop-entry.invariant.0 in
    let whole = no_part backup_line _ so_far.0 c.args.entries.now c.loop-entry.entry-index (omega (arith, c.loop-entry-test.false)) so_far.2 in
    let n : decimal (length c.args.entries.now) ≡ c.format-count.result.now = sym c.format-count.ensures.text in
    let before : List ℕ → Type 0 = λ xs. g.K.Sink.wrote c.args.sink.now xs c.put_all.new.sink in
    let after : List ℕ → Type 0 = λ xs. g.K.Sink.wrote c.loop-entry.sink xs c.put_all.new.sink in
    let join : (xs : List ℕ) → after xs → before (so_far.0 ++ xs) = λ xs. g.met.K.Sink.wrote_more _ _ c.put_all.new.sink so_far.0 xs so_far.1 in
    let e : backup_lines c.args.entries.now ≡ so_far.0 ++ (codes "states that back up: " ++ (c.format-count.result.now ++ (10 ∷ []))) =
    ap (λ l. l ++ count_line (length c.args.entries.now)) whole ∙ ap (λ l. so_far.0 ++ (codes "states that back up: " ++ (l ++ (10 ∷ [])))) n in
    rw e (appended_after before after so_far.0 _ c.put_all.result join c.put_all.ensures.bytes)
