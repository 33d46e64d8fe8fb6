use Rattle.std.proofs.Common.{◌≡◌, ◌∙◌, sym, rules, tests, ◌==◌}
use Rattle.std.specs.List.{position}
use Rattle.std.proofs.lemmas.Iterator.{YieldsList-from_slice}
use Rattle.std.proofs.lemmas.Iterator.Search.{position_from_yields_List}
use Rattle.lex_command.proofs.CommandLine.{no_out, out_at}
use Rattle.lex_command.proofs.job.args.is_out_with_equals.Goals as goal

pub returns-in-Some : goal.returns-in-Some
returns-in-Some c =
    let at : c.position.result ≡ position (λ b. b == 111) c.args.word.now =
    position_from_yields_List _ _ _ _ c.position.ensures.ran (YieldsList-from_slice c.args.word.now cc) (λ x b q k. search (rules, tests)) in
    c.has_byte_at-in-Some.ensures ∙ out_at c.args.word.now c.in-Some.at (search rules) (sym at ∙ c.in-Some.is)

pub returns-in-None : goal.returns-in-None
returns-in-None c =
    let at : c.position.result ≡ position (λ b. b == 111) c.args.word.now =
    position_from_yields_List _ _ _ _ c.position.ensures.ran (YieldsList-from_slice c.args.word.now cc) (λ x b q k. search (rules, tests)) in
    no_out c.args.word.now (sym at ∙ c.in-None.is)
