use Rattle.clap.specs.Words.{with_subcommand}
use Rattle.lex_command.specs.Forms.{subcommand_app}
use Rattle.lex_command.proofs.CommandLine.{fold_row}
use Rattle.lex_command.proofs.look.args.with_looks.Goals as goal

pub loop-name-preserved : goal.loop-name-preserved
loop-name-preserved c =
    fold_row with_subcommand (λ look. (subcommand_app look.0.now look.1.now).top) _ _ _ _ _ _ c.loop-name-test.true c.loop-name.invariant c.in_ok-with.ensures
