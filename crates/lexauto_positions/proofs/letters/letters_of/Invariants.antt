use Rattle.std.proofs.Common.{◌≡◌, ℕ, ◌||◌, drop, map, length}
use Rattle.lexauto_positions.specs.Laid.{shape_of}
use Rattle.lexauto_positions.specs.Letters.{reads_at}
use Rattle.lexauto_positions.specs.RuleFlow.{rules_read}
use Rattle.lexauto_positions.proofs.letters.letters_of.Given as goal

abbrev pub invariant-loop-rule : goal.invariant-loop-rule
invariant-loop-rule l =
    (b q : ℕ) → (reads_at l.letters.items b q 0 || rules_read (map shape_of (drop l.rule-index l.rules)) b q (length l.letters.items)) ≡ rules_read (map shape_of l.rules) b q 0
