use Rattle.std.proofs.Common.{sym, ◌∙◌}
use Rattle.lexspec_actions.proofs.ByteLemmas.{name_shorter}
use Rattle.lexspec_actions.proofs.bytes.name_at.Goals as goal

pub returns-clause-shorter : goal.returns-clause-shorter
returns-clause-shorter c = name_shorter _ _ _ _ _ c.split_name.ensures c.in_ok-first.ensures.cases.0 (sym c.starts_name.ensures ∙ c.if-not-starts_name.false)
