use Rattle.std.proofs.Common.{◌≡◌, ℕ, List, rules, sym, subst}
use Rattle.lexauto_dfa.specs.Alike.{moves}
use Rattle.lexauto_dfa.specs.Parts.{states, next}
use Rattle.lextab_packed.specs.Views.{table_of}
use Rattle.lextab.specs.Columns.{Packing, IsPacking}
use Rattle.lextab.specs.PackingViews.{packing_of}
use Rattle.lextab.proofs.Goes.{of_lists, packed_as, packed_goes}
use Rattle.lextab.proofs.Tabled.{packed_of}
use Rattle.lextab.proofs.tables.pack.Goals as goal

pub tables_by-requires-clause-goes : goal.tables_by-requires-clause-goes
tables_by-requires-clause-goes c =
    let p = c.args.dfa.now.parts in
    let q : Packing = packing_of c.in_ok-packed.packed in
    let len : c.len.result ≡ states c.parts-parts.result.now = search rules in
    packed_goes p c.args.dfa.now.lawful q
    (of_lists (λ (n : ℕ) (l : List ℕ). IsPacking n (moves l) q) p c.parts-parts.result.now c.len.result c.deref.result.now c.parts-parts.ensures len c.deref.ensures.value c.in_ok-packed.ensures)

pub returns-clause-packed : goal.returns-clause-packed
returns-clause-packed c =
    let p = c.args.dfa.now.parts in
    let q : Packing = packing_of c.in_ok-packed.packed in
    let len : c.len.result ≡ states c.parts-parts.result.now = search rules in
    let is = packed_as p c.args.dfa.now.lawful q
    (of_lists (λ (n : ℕ) (l : List ℕ). IsPacking n (moves l) q) p c.parts-parts.result.now c.len.result c.deref.result.now c.parts-parts.ensures len c.deref.ensures.value c.in_ok-packed.ensures) in
    packed_of (states p) (next p) (table_of c.in_ok-tables.tables.parts) (subst (λ (r : Packing). IsPacking (states p) (next p) r) (sym c.in_ok-tables.ensures.columns) is)
