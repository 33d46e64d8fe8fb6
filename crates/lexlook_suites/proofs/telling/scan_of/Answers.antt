use Rattle.std.proofs.Common.{arith}
use Rattle.lex_machine.proofs.Growing.{is_text_from}
use Rattle.lexauto_dfa.specs.Automata.{machine_of}
use Rattle.lexspec.proofs.TestLaws.{spec_is_sound}
use Rattle.lexspec.specs.Views.{spec_of}
use Rattle.lexlook_suites.proofs.Covered.{scanned_by}
use Rattle.lexlook_suites.proofs.telling.scan_of.Goals as goal

pub returns-clause-scanned : goal.returns-clause-scanned
returns-clause-scanned c =
    let S = spec_of c.args.spec.now in
    scanned_by S (spec_is_sound S c.args.spec.now.sound) (machine_of c.args.dfa.now S) c.requires.table c.in-Ok.machine c.in-Ok.ensures c.args.input.now c.new-list.result.items c.tokens.new.list.items c.new-list.ensures.items
    c.in-Ok-tokens.status (is_text_from c.args.input.now (λ k. let f = c.type_inv.input k in omega (arith, f))) c.in-Ok-tokens.ensures.listed
