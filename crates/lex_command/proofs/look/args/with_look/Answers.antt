-- One subcommand more.
use Rattle.std.proofs.Common.{◌∙◌, ap, refl}
use Rattle.std.proofs.lemmas.Result.{IfOk-weaker}
use Rattle.clap.specs.Words.{App, app_of, new_app, with_subcommand}
use Rattle.lex_command.specs.Forms.{rules_of}
use Rattle.lex_command.specs.LookLine.{without_help}
use Rattle.lex_command.proofs.Subcommands.{stays_plain, third_off}
use Rattle.lex_command.proofs.look.args.with_look.Goals as goal

pub returns : goal.returns
returns c =
    let plain = ap (λ (a : App). a.top.is_plain) c.in_ok-look_command.ensures
    ∙ stays_plain (without_help (new_app c.args.name.now)) (rules_of c.args.words.now) refl in
    IfOk-weaker c.subcommand.result _ _
    (λ new h. h.shape (third_off _ _ _ _ plain) ∙ ap (with_subcommand (app_of c.args.top)) (ap (λ (a : App). a.top) c.in_ok-look_command.ensures)) c.subcommand.ensures
