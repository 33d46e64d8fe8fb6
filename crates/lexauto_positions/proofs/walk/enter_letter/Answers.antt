use Rattle.std.proofs.Common.{◌+◌, ℕ, List, Vec, Global, arith, sym, ap, subst, ◌∙◌}
use Rattle.lexauto_positions.specs.Cursors.{IsFront}
use Rattle.lexauto_positions.proofs.CursorLaws.{front_more, front_wider}
use Rattle.lexauto_positions.proofs.walk.enter_letter.Goals.{then-entered+in_ok-push, else-entered}
use Rattle.lexauto_positions.proofs.walk.enter_letter.Goals as goal

pub returns-clause-front : goal.returns-clause-front
returns-clause-front c =
    let before = c.args.next.now.items in
    let base = c.args.base in
    elim c.if-entered.branch [
      | then-entered+in_ok-push w ↦
          subst (λ (l : List ℕ). IsFront l (base + 1)) (sym (ap (λ (v : Vec ℕ Global). v.items) w.next-is ∙ w.in_ok-push.ensures.items)) (front_more before base c.requires.front)
      | else-entered w ↦
          subst (λ (l : List ℕ). IsFront l (base + 1)) (sym (ap (λ (v : Vec ℕ Global). v.items) w.next-is)) (front_wider before base (base + 1) (omega arith) c.requires.front)
    ]
