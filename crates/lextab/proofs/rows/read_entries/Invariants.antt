use Rattle.lextab.specs.Searching.{AreEntries}
use Rattle.lextab.proofs.rows.read_entries.Given as goal

abbrev pub invariant-loop-k : goal.invariant-loop-k
invariant-loop-k l = AreEntries l.row l.default l.k l.entries.items
