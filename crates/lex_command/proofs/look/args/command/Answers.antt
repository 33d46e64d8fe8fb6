use Rattle.std.proofs.Common.{◌≡◌, ◌∙◌, ◌∷◌, [], ap, codes, fold, rules}
use Rattle.std.proofs.lemmas.Result.{IfOk-weaker}
use Rattle.clap.specs.Words.{App, app_of, with_subcommand}
use Rattle.lex_command.specs.LookLine.{check_words, file_app, flagged_file, no_subcommand, one_file, sets_app, suite_words, two_files}
use Rattle.lex_command.proofs.look.args.command.Goals as goal

abbrev with_all : App → App
with_all a = fold with_subcommand a (
    (file_app (codes "picture") one_file).top
    ∷ (file_app (codes "same") two_files).top
    ∷ (file_app (codes "lines") one_file).top
    ∷ (file_app (codes "words") one_file).top
    ∷ (file_app (codes "overlaps") one_file).top
    ∷ (file_app (codes "trace") (flagged_file (codes "offsets"))).top
    ∷ (file_app (codes "cover") one_file).top
    ∷ (file_app (codes "header") (flagged_file (codes "rust"))).top
    ∷ (file_app (codes "count") (flagged_file (codes "json"))).top
    ∷ sets_app.top
    ∷ (file_app (codes "check") check_words).top
    ∷ (file_app (codes "suite") suite_words).top
    ∷ [])

pub returns : goal.returns
returns c =
    let none : app_of c.subcommand_required-top.result ≡ no_subcommand = search rules in
    IfOk-weaker c.with_looks.result _ _ (λ new h. h ∙ ap with_all none) c.with_looks.ensures
