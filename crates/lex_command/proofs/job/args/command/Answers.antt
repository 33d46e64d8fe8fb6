use Rattle.std.proofs.Common.{◌≡◌, ◌∙◌, ap, fold, rules}
use Rattle.std.proofs.lemmas.Result.{IfOk-weaker}
use Rattle.clap.specs.Words.{App, app_of, with_rule}
use Rattle.lex_command.specs.CommandLine.{flag_rules, name_rules, no_rules}
use Rattle.lex_command.proofs.job.args.command.Goals as goal

pub returns : goal.returns
returns c =
    let none : app_of c.no_binary_name-command.result ≡ no_rules = search rules in
    IfOk-weaker c.with_words.result _ _ (λ new h. h ∙ ap (λ (a : App). fold with_rule (fold with_rule a flag_rules) name_rules) none) c.with_words.ensures
