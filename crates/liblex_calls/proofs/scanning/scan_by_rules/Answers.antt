use Rattle.std.proofs.Common.{Ok, Err, ap, ◌∙◌, subst, arith}
use Rattle.lextab_packed.specs.FlatViews.{tables_of}
use Rattle.lextab_packed.specs.Machines.{table_machine}
use Rattle.std.specs.Prelude.{nat_lt}
use Rattle.lex_semantics.specs.Machine.{rules_of_machine}
use Rattle.lex_io.specs.SliceSources.{slice_ends}
use Rattle.lex_machine.proofs.Growing.{is_text_from}
use Rattle.lexscan.specs.Runs.{Ran}
use Rattle.lexkit.specs.Headline.{max_reads}
use Rattle.lexkit.specs.declared.errors.ScanError.TheVariants as scans
use Rattle.lexkit.proofs.Carried as Same
use Rattle.liblex_calls.specs.Buffers.{HandedOut, FitsInto}
use Rattle.liblex_calls.specs.Scanning.{TellsScan}
use Rattle.liblex_calls.proofs.Telling.{ended_out, stopped_out}
use Rattle.liblex_calls.proofs.scanning.scan_by_rules.Goals as goal

pub returns-in-Ok : goal.returns-in-Ok
returns-in-Ok c file is =
    let bytes = c.as_slice.ensures.value in
    let h = c.in-Ok.ensures.ran in
    ended_out file c.args.input.now c.args.buffer.now c.hand_out.new.buffer c.hand_out.new.count c.new-source.result c.run_table.new.source c.new-sink.result c.run_table.new.sink
    c.new-source.ensures.bytes c.new-sink.ensures.bytes (is_text_from c.args.input.now (λ k. omega (arith, c.type_inv.input k))) c.in-Ok.end c.hand_out.result
    (record {
      table = is.table;
      file = is.is_file;
      goes_on = is.goes_on;
      leads = is.leads;
      scans = record {
        given = h.0;
        out = h.1;
        source = h.2;
        sink = h.3;
        ran = subst (λ N. Ran (rules_of_machine N) h.0 h.1 (nat_lt (slice_ends c.new-source.result) (slice_ends c.run_table.new.source)) max_reads (Ok c.in-Ok.end)) (ap (λ f. table_machine (tables_of f)) c.flat.ensures ∙ is.is) h.4;
        few_reads = Same.few_reads h.0 max_reads (slice_ends c.new-source.result) (slice_ends c.run_table.new.source) 0 0 h.5;
      };
    })
    (subst (λ l. HandedOut l c.args.buffer.now c.hand_out.new.buffer c.hand_out.new.count) bytes c.hand_out.ensures.handed)
    (subst (λ l. FitsInto l c.args.buffer.now c.hand_out.result) bytes c.hand_out.ensures.fits)

pub returns : goal.returns
returns c file is =
    let h = c.in-Err.ensures.ran in
    stopped_out file c.args.input.now c.args.buffer.now c.tell.new.buffer c.tell.new.count c.new-source.result c.run_table.new.source c.new-sink.result c.run_table.new.sink
    c.new-source.ensures.bytes c.new-sink.ensures.bytes (is_text_from c.args.input.now (λ k. omega (arith, c.type_inv.input k))) (scans.Run c.in-Err.error) c.tell.result
    (record {
      table = is.table;
      file = is.is_file;
      goes_on = is.goes_on;
      leads = is.leads;
      scans = record {
        given = h.0;
        out = h.1;
        source = h.2;
        sink = h.3;
        ran = subst (λ N. Ran (rules_of_machine N) h.0 h.1 (nat_lt (slice_ends c.new-source.result) (slice_ends c.run_table.new.source)) max_reads (Err c.in-Err.error)) (ap (λ f. table_machine (tables_of f)) c.flat.ensures ∙ is.is) h.4;
        few_reads = Same.few_reads h.0 max_reads (slice_ends c.new-source.result) (slice_ends c.run_table.new.source) 0 0 h.5;
      };
    })
    (subst (λ l. TellsScan (scans.Run c.in-Err.error) l c.args.buffer.now c.tell.new.buffer c.tell.new.count c.tell.result) c.as_slice-in-Err.ensures.value c.tell.ensures)
