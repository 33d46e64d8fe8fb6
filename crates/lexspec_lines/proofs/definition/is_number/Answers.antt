use Rattle.std.proofs.Common.{rules, not, ℕ, List, ap, sym, ◌∙◌}
use Rattle.lex_semantics.specs.ByteSets.{is_digit}
use Rattle.lex_semantics.specs.Reading.{is_empty}
use Rattle.lex_semantics.proofs.ReadingLaws.{empty_test}
use Rattle.lexspec_lines.proofs.RunLaws.{run_split}
use Rattle.lexspec_lines.proofs.TextLaws.{run_all}
use Rattle.lexspec_lines.proofs.definition.is_number.Goals as goal

pub returns : goal.returns
unfolding is_digit
returns c =
    let digits = run_split is_digit c.args.word.now _ _ (c.split_before.ensures.split (λ b. not (is_digit b)) (λ b r h post. search rules)) in
    c.is_empty.ensures ∙ empty_test c.split_before.result.1.now ∙ ap (λ (s : List ℕ × List ℕ). is_empty s.1) (sym digits) ∙ run_all is_digit c.args.word.now
