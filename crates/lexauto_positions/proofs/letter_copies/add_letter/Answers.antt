use Rattle.std.proofs.Common.{◌+◌, ℕ, List, sym, subst}
use Rattle.lexauto_positions.specs.Cursors.{IsFront}
use Rattle.lexauto_positions.proofs.CursorLaws.{front_more}
use Rattle.lexauto_positions.proofs.letter_copies.add_letter.Goals as goal

pub returns-in_ok-push-clause-front : goal.returns-in_ok-push-clause-front
returns-in_ok-push-clause-front c =
    subst (λ (l : List ℕ). IsFront l (c.args.base + 1)) (sym c.in_ok-push.ensures.items) (front_more c.args.next.now.items c.args.base c.requires.front)
