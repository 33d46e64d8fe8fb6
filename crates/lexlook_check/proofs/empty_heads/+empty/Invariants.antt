use Rattle.std.proofs.Common.{◌≡◌, ◌==◌, drop, map}
use Rattle.lex_semantics.specs.Tree.{trees}
use Rattle.lexre.specs.Lengths.{least_of_each}
use Rattle.lexre.specs.Views.{tree_of}
use Rattle.lexlook_check.proofs.EmptyLaws.{some_empty}
use Rattle.lexlook_check.proofs.empty_heads.+empty.Given as goal

abbrev pub invariant-all_take_empty-loop-part : goal.invariant-all_take_empty-loop-part
invariant-all_take_empty-loop-part l =
    (least_of_each (trees (map tree_of (drop l.part-index l.parts))) == 0) ≡ (least_of_each (trees (map tree_of l.parts)) == 0)

abbrev pub invariant-some_takes_empty-loop-part : goal.invariant-some_takes_empty-loop-part
invariant-some_takes_empty-loop-part l = some_empty (trees (map tree_of (drop l.part-index l.parts))) ≡ some_empty (trees (map tree_of l.parts))
