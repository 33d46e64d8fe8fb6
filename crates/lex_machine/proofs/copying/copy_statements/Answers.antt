use Rattle.std.proofs.Common.{◌≡◌, ◌∷◌, [], ◌++◌, ◌∙◌, map, List, rules, arith, sym, subst, ap}
use Rattle.std.proofs.lemmas.Grind.{common_steps}
use Rattle.std.proofs.lemmas.List.{map_push}
use Rattle.lex_semantics.specs.Spec as S
use Rattle.lex_machine.specs.Views.{statement_of}
use Rattle.lex_machine.specs.Literals.{Each, HasText}
use Rattle.lex_machine.proofs.Growing.{each_push}
use Rattle.lex_machine.proofs.copying.copy_statements.Goals as goal

pub loop-statement-preserved : goal.loop-statement-preserved
loop-statement-preserved c =
    let old = c.loop-statement.copies.items in
    let one = c.in_ok-copy_statement.field-0 in
    let more : c.push.new.self.items ≡ old ++ one ∷ [] = search rules in
    let was = c.loop-statement.invariant.0 in
    let same = c.in_ok-copy_statement.ensures.same in
    let views : map statement_of c.push.new.self.items ≡ map statement_of old ++ statement_of one ∷ [] = ap (λ xs. map statement_of xs) more ∙ map_push statement_of old one in (
      grind (arith, common_steps),
      subst (λ (l : List S.Statement). Each HasText 0 l) (sym views) (each_push HasText (map statement_of old) (statement_of one) c.loop-statement.invariant.1 c.in_ok-copy_statement.ensures.text),
    )
