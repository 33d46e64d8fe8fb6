use Rattle.std.proofs.Common.{ap}
use Rattle.lex_semantics.specs.Tree.{Alt, Cat}
use Rattle.lexre.proofs.BareLaws.{marked_again, series_tree_of, choice_tree_of}
use Rattle.lexre.proofs.pattern.Pattern.+is_bare.Goals as goal

pub returns-in-Cat : goal.returns-in-Cat
returns-in-Cat t c = λ e. rw c.in-Cat.is (rw (series_tree_of c.in-Cat.parts) (ap Cat (marked_again _ _ e)))

pub returns-in-Alt : goal.returns-in-Alt
returns-in-Alt t c = λ e. rw c.in-Alt.is (rw (choice_tree_of c.in-Alt.parts) (ap Alt (marked_again _ _ e)))
