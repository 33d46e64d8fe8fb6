use Rattle.std.proofs.Common.{◌≡◌, fold, take}
use Rattle.clap.specs.Words.{app_of, with_rule}
use Rattle.lex_command.specs.Forms.{rules_of}
use Rattle.lex_command.proofs.words.with_words.Given as goal

abbrev pub invariant-loop-name : goal.invariant-loop-name
invariant-loop-name l = app_of l.with ≡ fold with_rule (app_of l.fn.command) (rules_of (take l.name-index l.words))
