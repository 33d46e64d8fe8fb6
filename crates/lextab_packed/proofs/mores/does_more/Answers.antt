use Rattle.std.proofs.Common.{ap, ◌∙◌}
use Rattle.std.specs.Prelude.{slice_get}
use Rattle.lextab_packed.proofs.Ways.{among_first}
use Rattle.lextab_packed.proofs.mores.does_more.Goals as goal

pub rule-cut-requires : goal.rule-cut-requires
rule-cut-requires c =
    c.args.tables.now.laws.in_range c.args.state c.in-Some.rule.now (among_first _ c.in-Some.rule.now (c.in-Some.ensures.value ∙ ap (λ l. slice_get l 0) c.accepts.ensures))
