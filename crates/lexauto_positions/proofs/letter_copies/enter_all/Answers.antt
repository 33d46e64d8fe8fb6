use Rattle.std.proofs.lemmas.Grind.{common_steps}
use Rattle.std.proofs.Common.{false, sym, arith}
use Rattle.lex_semantics.specs.Active.{contains}
use Rattle.lexauto_positions.proofs.LetterCopyLaws.{all_pass}
use Rattle.lexauto_positions.proofs.letter_copies.enter_all.Goals as goal

pub returns-clause-left : goal.returns-clause-left
returns-clause-left c = sym (all_pass (contains c.args.last.now) c.args.base c.args.copies.least false c.args.copies.count)

pub returns-clause-cursor : goal.returns-clause-cursor
returns-clause-cursor = grind (arith, common_steps)

pub skip_last-requires-clause-cursor : goal.skip_last-requires-clause-cursor
skip_last-requires-clause-cursor = grind (arith, common_steps)
