use Rattle.std.proofs.Common.{rules, ◌≡◌, ℕ, ◌<◌, length, true, false, ◌∙◌, ap, Vec, Global}
use Rattle.lex_semantics.specs.Text.{flag}
use Rattle.lexauto_positions.proofs.Numbers.{number_in, number_out}
use Rattle.lexauto.proofs.sets.numbers_of.Goals.{then-is_in+in_ok-push, else-is_in}
use Rattle.lexauto.proofs.sets.numbers_of.Goals as goal

pub loop-i-preserved : goal.loop-i-preserved
loop-i-preserved c =
    let marks = c.args.marks.now in
    let i = c.loop-i.i in
    let lt : i < length marks = search rules in
    elim c.if-is_in.branch [
      | then-is_in+in_ok-push w ↦
          (let t : flag marks i ≡ true = (let f = w.if-is_in.true in search (rules, f)) in
          number_in (flag marks) c.loop-i.numbers.items c.if-is_in.numbers.items i (length marks) lt t (ap (λ (v : Vec ℕ Global). v.items) w.numbers-is ∙ w.in_ok-push.ensures.items) ∙ c.loop-i.invariant)
      | else-is_in w ↦
          (let t : flag marks i ≡ false = (let f = w.if-is_in.false in search (rules, f)) in
          number_out (flag marks) c.loop-i.numbers.items c.if-is_in.numbers.items i (length marks) lt t (ap (λ (v : Vec ℕ Global). v.items) w.numbers-is) ∙ c.loop-i.invariant)
    ]
