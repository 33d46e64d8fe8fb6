use Rattle.std.proofs.Common.{◌≡◌, length}
use Rattle.std.specs.Prelude.{None, fold, option_map}
use Rattle.lexspec_lines.specs.Lines.{words}
use Rattle.lexlook_text.specs.Names.{nearer_name}
use Rattle.lexlook_text.proofs.names.nearest.Given as goal

-- the nearest so far, and then of the words behind
abbrev pub invariant-words : goal.invariant-words
invariant-words l =
    fold (nearer_name l.word) (option_map (λ n. n.now) l.best) (words l.rest) ≡ fold (nearer_name l.word) None (words l.names)

abbrev pub decreases-words : goal.decreases-words
decreases-words l = length l.rest
