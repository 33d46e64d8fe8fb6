use Rattle.std.proofs.Common.{◌≡◌, ◌∙◌, ap, fold, rules}
use Rattle.std.proofs.lemmas.Result.{IfOk-weaker}
use Rattle.clap.specs.Words.{App, app_of, new_app, with_rule}
use Rattle.lex_command.specs.Forms.{rules_of}
use Rattle.lex_command.specs.LookLine.{without_help}
use Rattle.lex_command.proofs.look.args.look_command.Goals as goal

pub returns : goal.returns
returns c =
    let none : app_of c.disable_help_flag-command.result ≡ without_help (new_app c.args.name.now) = search rules in
    IfOk-weaker c.with_words.result _ _ (λ new h. h ∙ ap (λ (a : App). fold with_rule a (rules_of c.args.words.now)) none) c.with_words.ensures
