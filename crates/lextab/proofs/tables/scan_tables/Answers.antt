use Rattle.std.proofs.Common.{◌≡◌, ℕ, List, rules, length, map, sym, ap, ◌∙◌, slice_index}
use Rattle.std.proofs.lemmas.List.{length-map}
use Rattle.lextab_packed.specs.Table.{Row}
use Rattle.lextab_packed.specs.Views.{row_of}
use Rattle.lexauto_dfa.specs.Alike.{moves}
use Rattle.lexauto_dfa.specs.Parts.{states}
use Rattle.lexauto_dfa.specs.declared.dfa.Parts.{Parts}
use Rattle.lextab.specs.Columns.{Packing, GoesAs}
use Rattle.lextab.specs.PackingViews.{packing_of}
use Rattle.lextab.proofs.Goes.{of_lists, dead_row, goes_by_lists}
use Rattle.lextab.proofs.tables.scan_tables.Goals as goal

pub unpacked-requires-clause-dead : goal.unpacked-requires-clause-dead
unpacked-requires-clause-dead c b h =
    let p = c.args.dfa.now.parts in
    ap (λ (l : List ℕ). slice_index l b) (c.deref.ensures.value ∙ ap (λ (x : Parts). x.next.items) c.parts-parts.ensures) ∙ dead_row p c.args.dfa.now.lawful b h

pub tables_by-requires-clause-goes : goal.tables_by-requires-clause-goes
tables_by-requires-clause-goes c =
    let p = c.args.dfa.now.parts in
    let q : Packing = packing_of c.in_ok-columns.columns in
    let len : c.len.result ≡ states c.parts-parts.result.now = search rules in
    goes_by_lists p c.args.dfa.now.lawful q
    (of_lists (λ (n : ℕ) (l : List ℕ). GoesAs n (moves l) q) p c.parts-parts.result.now c.len.result c.deref.result.now c.parts-parts.ensures len c.deref.ensures.value c.in_ok-columns.ensures)

pub returns-clause-states : goal.returns-clause-states
returns-clause-states c =
    let p = c.args.dfa.now.parts in
    let rows = c.in_ok-tables_by.field-0.parts.rows.items in
    let len : c.len.result ≡ states c.parts-parts.result.now = search rules in
    sym (length-map rows row_of)
    ∙ sym (length-map (map row_of rows) (λ (r : Row). r.default_target))
    ∙ ap (λ (q : Packing). length q.defaults) c.in_ok-tables_by.ensures.columns
    ∙ c.in_ok-columns.ensures.defaults_len ∙ len ∙ ap states c.parts-parts.ensures
