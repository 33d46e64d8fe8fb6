use Rattle.std.proofs.lemmas.Grind.{common_steps}
use Rattle.std.proofs.Common.{◌≡◌, ◌+◌, ◌≤◌, ◌||◌, ℕ, Bool, [], refl, sym, ap, ◌∙◌, arith}
use Rattle.std.proofs.Math.Path.{fun_ext}
use Rattle.lex_semantics.specs.Active.{contains}
use Rattle.lex_semantics.specs.Positions.{positions}
use Rattle.lex_semantics.specs.Subsets.{positions_of_rule}
use Rattle.lexauto_positions.specs.Flow.{enters}
use Rattle.lexauto_positions.specs.Laid.{shape_of}
use Rattle.lexauto_positions.proofs.CursorLaws.{front_wider}
use Rattle.lexauto_positions.proofs.Passing.{nowhere, first_of_rule}
use Rattle.lexauto_positions.proofs.rules.enter_rule.Goals as goal

pub returns : goal.returns
returns c =
    let r = shape_of c.args.rule.now in
    let base = c.args.base in
    let old = c.args.next.now.items in
    let none : contains [] ≡ nowhere = fun_ext (λ x. refl) in
    let within : base + positions r.head ≤ base + positions_of_rule r = omega arith in
    record {
      front = front_wider c.enter.new.next.items (base + positions r.head) (base + positions_of_rule r) within c.in_ok-enter.ensures.front;
      next = λ q. c.in_ok-enter.ensures.next q
          ∙ ap (λ (b : Bool). contains old q || b) (ap (λ (S : ℕ → Bool). enters r.head S q base c.args.entered) none ∙ sym (first_of_rule r q base c.args.entered));
    }

pub returns-in_err-enter-clause-front : goal.returns-in_err-enter-clause-front
returns-in_err-enter-clause-front = grind (arith, common_steps)

pub returns-in_err-enter-clause-next : goal.returns-in_err-enter-clause-next
returns-in_err-enter-clause-next = grind (arith, common_steps)
