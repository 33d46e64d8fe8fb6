use Rattle.std.proofs.Common.{◌≡◌, fold, map, take}
use Rattle.clap.specs.Words.{app_of, with_subcommand}
use Rattle.lex_command.specs.Forms.{subcommand_app}
use Rattle.lex_command.proofs.look.args.with_looks.Given as goal

abbrev pub invariant-loop-name : goal.invariant-loop-name
invariant-loop-name l = app_of l.with
    ≡ fold with_subcommand (app_of l.fn.top) (map (λ look. (subcommand_app look.0.now look.1.now).top) (take l.name-index l.looks))
