use Rattle.lextab_packed.specs.Machines.{table_machine}
use Rattle.lexkit.proofs.laws.text_tokens.Goals as goal

pub returns : goal.returns
returns c options text g (S, spells, skipped, lines, made) = (
  S,
  spells,
  made.made.rule_lines,
  c.table_tokens.ensures (table_machine g.made.tables) S g.made.tables.laws made.made.tables.sound (made.made.tables.canonical).table_for,
)
