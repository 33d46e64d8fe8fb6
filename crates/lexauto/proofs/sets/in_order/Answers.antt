use Rattle.std.proofs.Common.{◌≡◌, ℕ, ◌<◌, Bool, List, length, true, arith, sym, ap, subst, ◌∙◌}
use Rattle.lex_semantics.specs.Active.{contains}
use Rattle.lex_semantics.specs.Text.{flag, listed}
use Rattle.lexauto_positions.specs.Cursors.{Increases}
use Rattle.lexauto.specs.Sets.{marked}
use Rattle.lexauto_positions.proofs.CursorLaws.{increases}
use Rattle.lexauto_positions.proofs.Numbers.{listed_ascends}
use Rattle.lexauto.proofs.KeyLaws.{listed_flags, marked_is}
use Rattle.lexauto.proofs.sets.in_order.Goals as goal

pub returns-clause-increases : goal.returns-clause-increases
returns-clause-increases c =
    let marks = c.deref.result.now in
    subst Increases (sym c.in_ok-numbers.ensures) (increases (listed (flag marks) 0 (length marks)) (listed_ascends (flag marks) 0 (length marks)))

pub returns-clause-same : goal.returns-clause-same
returns-clause-same c = λ i.
    let marks = c.deref.result.now in
    let same : (j : ℕ) → flag marks j ≡ marked c.args.count c.args.numbers.now j = λ j. ap (λ (m : List Bool). flag m j) c.deref.ensures.value ∙ c.in_ok-marks.ensures.marks j in
    let size : length marks ≡ c.args.count = ap length c.deref.ensures.value ∙ c.in_ok-marks.ensures.length in
    let low : (j : ℕ) → flag marks j ≡ true → j < length marks = λ j t. let r = ((marked_is c.args.count c.args.numbers.now j).0 (sym (same j) ∙ t)).0 in omega (arith, r, size) in
    ap (λ (l : List ℕ). contains l i) c.in_ok-numbers.ensures ∙ listed_flags (length marks) (flag marks) low i ∙ same i
