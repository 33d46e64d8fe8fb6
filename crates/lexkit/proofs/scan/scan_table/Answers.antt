use Rattle.std.proofs.Common.{refl}
use Rattle.lextab_packed.specs.Views.{table_of}
use Rattle.lexkit.specs.Headline.{max_reads}
use Rattle.lexkit.proofs.Carried as Same
use Rattle.lexkit.proofs.Refusing.{table_refusal}
use Rattle.lexkit.proofs.scan.scan_table.Goals as goal

pub returns-in-Err-run_table-clause-told : goal.returns-in-Err-run_table-clause-told
returns-in-Err-run_table-clause-told g c =
    let h = c.in-Err-run_table.ensures.ran in
    record {
      table = table_of c.in-Ok.flat.tables.parts;
      file = c.in-Ok.ensures.found;
      goes_on = c.in-Ok.flat.tables.goes_on.items;
      leads = c.in-Ok.flat.tables.leading;
      scans = record {
        given = h.0;
        out = h.1;
        source = h.2;
        sink = h.3;
        ran = h.4;
        few_reads = Same.few_reads h.0 max_reads _ _ _ _ h.5;
      };
    }

pub returns-clause-told : goal.returns-clause-told
returns-clause-told g c =
    let h = c.in-Ok-run_table.ensures.ran in
    record {
      table = table_of c.in-Ok.flat.tables.parts;
      file = c.in-Ok.ensures.found;
      goes_on = c.in-Ok.flat.tables.goes_on.items;
      leads = c.in-Ok.flat.tables.leading;
      scans = record {
        given = h.0;
        out = h.1;
        source = h.2;
        sink = h.3;
        ran = h.4;
        few_reads = Same.few_reads h.0 max_reads _ _ _ _ h.5;
      };
    }

pub returns-in-Err-clause-told : goal.returns-in-Err-clause-told
returns-in-Err-clause-told g c = (table_refusal c.args.bytes.now c.in-Err.error c.in-Err.ensures.none, refl, refl)
