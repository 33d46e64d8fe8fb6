use Rattle.std.proofs.Common.{sym, subst, ◌∙◌}
use Rattle.lex_semantics.specs.Text.{flag}
use Rattle.lextab_packed.specs.Views.{table_of}
use Rattle.lexkit.specs.Canonical.{IsCanonical}
use Rattle.liblex_calls.proofs.Telling.{file_out}
use Rattle.liblex_calls.proofs.generating.generate_into.Goals as goal

pub returns : goal.returns
returns c =
    let (S, spells, skipped, lines, by) = c.in-Ok.ensures in
    let same = c.as_slice.ensures.value ∙ c.in-Ok-file_bytes.ensures in
    file_out c.args.options c.args.text.now c.as_slice.result.now c.args.buffer.now c.hand_out.new.buffer c.hand_out.new.count c.hand_out.result S spells (subst (IsCanonical S) (sym same) (table_of c.in-Ok.made.tables.parts, (λ s. flag c.in-Ok.made.tables.goes_on.items s), by.tables.canonical)) c.hand_out.ensures.handed c.hand_out.ensures.fits
