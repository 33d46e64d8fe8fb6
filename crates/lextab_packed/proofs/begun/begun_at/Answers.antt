use Rattle.std.proofs.Common.{ap, ◌∙◌}
use Rattle.std.specs.Prelude.{slice_get}
use Rattle.lextab_packed.proofs.Ways.{among_first}
use Rattle.lextab_packed.proofs.begun.begun_at.Goals as goal

pub rule-cut-requires : goal.rule-cut-requires
rule-cut-requires c =
    c.args.tables.now.laws.in_range c.args.state c.in_ok-rule.rule.now (among_first _ c.in_ok-rule.rule.now (c.in_ok-rule.ensures.value ∙ ap (λ l. slice_get l 0) c.accepts.ensures))
