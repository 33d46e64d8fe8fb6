use Rattle.std.proofs.Common.{◌∙◌, ℕ, List, ap, subst}
use Rattle.lex_semantics.specs.Acting.{Status}
use Rattle.lexkit.specs.Generated.{lines_of}
use Rattle.lexspec.proofs.TestLaws.{spec_is_sound}
use Rattle.lexspec.specs.Views.{spec_of}
use Rattle.lextab_packed.specs.FlatViews.{tables_of}
use Rattle.lextab_packed.specs.Machines.{laws_of, table_machine}
use Rattle.lexscan.proofs.Tables.{table_tokens}
use Rattle.lexlook_counts.specs.Places.{Left, offset_lines}
use Rattle.lexlook_counts.proofs.places.tell_places.Goals as goal

pub returns-in-Err-place_source-clause-told : goal.returns-in-Err-place_source-clause-told
returns-in-Err-place_source-clause-told g c =
    let S = spec_of c.in-Ok.spec in
    let made = c.in-Ok-machine_of.ensures.made in
    let h = c.in-Err-place_source.ensures in
    let lines = c.deref.ensures.value ∙ c.in-Ok-lines_of.ensures ∙ ap lines_of c.rules.ensures.rules in
    record {
      spec = S;
      spells = c.in-Ok.ensures.spells;
      within = made.within;
      machine = table_machine (tables_of c.in-Ok-machine_of.machine);
      table = made.table;
      given = h.given;
      at_end = h.at_end;
      tokens = h.tokens;
      source = h.source;
      ends = h.ends;
      first = h.first;
      written = subst (λ (l : List ℕ). Left (λ xs. g.K.Sink.wrote c.args.sink.now xs c.place_source.new.sink) (offset_lines l h.given h.tokens) c.in-Err-place_source.error) lines h.written;
      stack = h.stack;
    }

pub returns-clause-told : goal.returns-clause-told
returns-clause-told g c =
    let S = spec_of c.in-Ok.spec in
    let made = c.in-Ok-machine_of.ensures.made in
    let f = c.in-Ok-machine_of.machine in
    let h = c.in-Ok-place_source.ensures in
    let lines = c.deref.ensures.value ∙ c.in-Ok-lines_of.ensures ∙ ap lines_of c.rules.ensures.rules in
    record {
      spec = S;
      spells = c.in-Ok.ensures.spells;
      within = made.within;
      given = h.given;
      at_end = h.at_end;
      tokens = h.tokens;
      source = h.read.source;
      ends = h.read.ends;
      all = λ x k. table_tokens (table_machine (tables_of f)) S (laws_of (tables_of f)) (spec_is_sound S c.in-Ok.spec.sound) made.table x h.tokens (Status c.in-Ok-place_source.status) k.0 (h.read.all x k);
      written = subst (λ (l : List ℕ). g.K.Sink.wrote c.args.sink.now (offset_lines l h.given h.tokens) c.place_source.new.sink) lines h.written;
    }
