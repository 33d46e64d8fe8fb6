use Rattle.std.proofs.Common.{◌≡◌, Bool, true, false, sym, refl, ◌∙◌, ap, arith}
use Rattle.std.specs.Prelude.{not}
use Rattle.std.proofs.lemmas.Bool.{eqb-true}
use Rattle.std.proofs.lemmas.List.{nil_from_length}
use Rattle.lex_semantics.specs.Spec.{EndAction}
use Rattle.lexlook_tables.proofs.lines.cutting.writes_at_end.Goals as goal

not_no : (b : Bool) → not b ≡ false → b ≡ true
not_no true e = refl
not_no false e = absurd cc

pub returns-clause-no : goal.returns-clause-no
returns-clause-no g c = λ is. sym (ap (λ (e : EndAction). e.print) c.eof.ensures) ∙ nil_from_length c.eof.result.now.print.items (omega (arith, eqb-true _ 0 (sym c.is_empty.ensures ∙ not_no c.is_empty.result is), c.eof.result.now.print.ok.0))
