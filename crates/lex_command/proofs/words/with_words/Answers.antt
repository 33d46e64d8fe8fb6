use Rattle.lex_command.specs.Forms.{form_rule}
use Rattle.lex_command.proofs.CommandLine.{adds_row, all_rows}
use Rattle.lex_command.proofs.words.with_words.Goals as goal

pub loop-name-preserved : goal.loop-name-preserved
loop-name-preserved c =
    adds_row (λ word. form_rule word.0.now word.1) _ _ _ _ _ _ _ c.loop-name-test.true c.in_ok-with.ensures c.word.ensures.global c.loop-name.invariant c.word.ensures.rule

pub returns : goal.returns
returns c = all_rows (λ word. form_rule word.0.now word.1) _ _ _ _ c.loop-name-test.false c.loop-name.invariant
