use Rattle.std.proofs.Common.{rules, ◌≡◌, ◌∙◌, None, ap, map, sym}
use Rattle.std.specs.Prelude.{string_bytes}
use Rattle.std.proofs.lemmas.Result.{IfErr-weaker, IfOk-weaker}
use Rattle.clap.specs.Words.{app_of, is_simple_and_free}
use Rattle.lex_command.proofs.CommandLine.{err_told}
use Rattle.lex_command.specs.LookLine.{about_of, lexlook_app}
use Rattle.lex_command.proofs.Asked.{asked_by, asks_by, asks_for_none, lexlook_is_free}
use Rattle.lex_command.proofs.look.args.read_args.Goals as goal

pub returns-in_err-matches-clause-refused : goal.returns-in_err-matches-clause-refused
returns-in_err-matches-clause-refused c =
    let is : app_of c.in_ok-command.command ≡ lexlook_app = c.in_ok-command.ensures in
    let plain : about_of (map string_bytes c.args.words.now) ≡ None = first_of (cc, search rules) in
    err_told c.from_residual-in_err-matches.result _ _ (λ r told usage look asks. asks_for_none _ _ c.in_err-matches.field-0.0 look is plain
    (c.in_err-matches.ensures.kinds (ap is_simple_and_free is ∙ lexlook_is_free)) (sym told ∙ usage) asks) c.from_residual-in_err-matches.ensures.1

pub returns-clause-asked : goal.returns-clause-asked
returns-clause-asked c =
    let words = map string_bytes c.args.words.now in
    let is : app_of c.in_ok-command.command ≡ lexlook_app = c.in_ok-command.ensures in
    let plain : about_of (map string_bytes c.args.words.now) ≡ None = first_of (cc, search rules) in
    IfOk-weaker c.look_of.result _ _ (λ look h. asked_by words _ _ look is plain c.in_ok-matches.ensures.matches
    (c.in_ok-matches.ensures.kinds (ap is_simple_and_free is ∙ lexlook_is_free)) h) c.look_of.ensures.asked

pub returns-clause-refused : goal.returns-clause-refused
returns-clause-refused c =
    let words = map string_bytes c.args.words.now in
    let is : app_of c.in_ok-command.command ≡ lexlook_app = c.in_ok-command.ensures in
    let plain : about_of (map string_bytes c.args.words.now) ≡ None = first_of (cc, search rules) in
    IfErr-weaker c.look_of.result _ _ (λ e h usage look asks. h usage look
    (asks_by words _ _ look is plain c.in_ok-matches.ensures.matches asks)) c.look_of.ensures.refused
