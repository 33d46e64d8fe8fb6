use Rattle.std.proofs.Common.{subst, sym}
use Rattle.lex_semantics.specs.Text.{Among}
use Rattle.lexlook_suites.specs.declared.texts.Missed.{Missed}
use Rattle.lexlook_suites.proofs.Over.{among_at}
use Rattle.lexlook_suites.proofs.lines.add_all_missed.Goals as goal

pub add_missed-requires : goal.add_missed-requires
add_missed-requires c = c.requires c.edge-item.result (subst (λ (x : Missed). Among c.args.missed.now x) (sym c.edge-item.is) (among_at c.args.missed.now c.loop-edge.edge-index c.edge-item.result c.loop-edge-test.true))
