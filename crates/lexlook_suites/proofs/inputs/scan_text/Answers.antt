use Rattle.lex_semantics.specs.Acting.{Status}
use Rattle.lexlook_suites.specs.Gathers.{rules_by}
use Rattle.lexlook_suites.proofs.Suited.{listed}
use Rattle.lexlook_suites.proofs.inputs.scan_text.Goals as goal

pub with_output-requires : goal.with_output-requires
with_output-requires c =
    let h = c.in-Ok.ensures.listed in
    listed (rules_by c.args.machine.now) c.as_slice.result.now c.args.text.items c.new-list.result.items c.tokens.new.list.items h.0 (Status c.in-Ok.status) c.new-list.ensures.items c.as_slice.ensures.value h.1 h.2
