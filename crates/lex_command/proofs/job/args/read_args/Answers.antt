use Rattle.std.proofs.Common.{rules, ◌≡◌, ◌∙◌, ap, map, string_bytes, sym}
use Rattle.std.proofs.lemmas.Result.{IfErr-weaker, IfOk-weaker}
use Rattle.clap.specs.Words.{app_of, is_simple_and_free}
use Rattle.lex_command.specs.CommandLine.{lex_app}
use Rattle.lex_command.proofs.CommandLine.{asked_by, asks_by, asks_for_none, err_told, lex_is_free}
use Rattle.lex_command.proofs.job.args.read_args.Goals as goal

pub returns-in_err-matches-clause-refused : goal.returns-in_err-matches-clause-refused
returns-in_err-matches-clause-refused c =
    let is : app_of c.in_ok-command.command ≡ lex_app = c.in_ok-command.ensures in
    err_told c.from_residual-in_err-matches.result _ _ (λ r told usage job asks. asks_for_none _ _ c.in_err-matches.field-0.0 job is
    (c.in_err-matches.ensures.kinds (ap is_simple_and_free is ∙ lex_is_free)) (sym told ∙ usage) asks) c.from_residual-in_err-matches.ensures.1

pub returns-clause-asked : goal.returns-clause-asked
returns-clause-asked c =
    let words = map string_bytes c.args.words.now in
    let is : app_of c.in_ok-command.command ≡ lex_app = c.in_ok-command.ensures in
    IfOk-weaker c.job_of.result _ _ (λ job h. asked_by words _ _ _ job is (search rules) c.in_ok-matches.ensures.matches
    (c.in_ok-matches.ensures.kinds (ap is_simple_and_free is ∙ lex_is_free)) c.has_separator.ensures h) c.job_of.ensures.asked

pub returns-clause-refused : goal.returns-clause-refused
returns-clause-refused c =
    let words = map string_bytes c.args.words.now in
    let is : app_of c.in_ok-command.command ≡ lex_app = c.in_ok-command.ensures in
    IfErr-weaker c.job_of.result _ _ (λ e h usage job asks. h usage job
    (asks_by words _ _ _ job is c.in_ok-matches.ensures.matches c.has_separator.ensures asks)) c.job_of.ensures.refused
