use Rattle.std.proofs.Common.{◌≡◌, ℕ, ◌+◌, ◌-◌, ◌%◌, ◌^◌, ◌≤◌, length, take, drop, sym, ap, subst, ◌∙◌, arith}
use Rattle.lex_semantics.specs.Text.{part}
use Rattle.lexscan.proofs.Pulling.{to_end}
use Rattle.liblex_calls.specs.Lines.{IsAfter}
use Rattle.liblex_calls.specs.declared.lines.Mark.{Mark}
use Rattle.liblex_calls.proofs.Lining.{Chosen, chosen_end, chosen_start, moved_to, passed, part_left, inside}
use Rattle.liblex_calls.proofs.lines.Lines.go_on.Goals as goal
use Rattle.liblex_calls.proofs.lines.Lines.go_on.Goals.{then-start-self, else-start-self}

pub returns-then-known-text-clause-moved : goal.returns-then-known-text-clause-moved
returns-then-known-text-clause-moved c fed tokens t placed follows start ends inside_fed few text =
    let l = c.args.self.now in
    let m = c.if-start-self.self in
    let chosen : Chosen fed t.start l m = elim c.if-start-self.branch [
      | then-start-self w ↦ chosen_end fed tokens t.start l m placed (sym start ∙ w.if-start-self.true) w.self-is
      | else-start-self w ↦ chosen_start fed tokens t.start l m placed follows (λ e. w.if-start-self.false (start ∙ e)) w.self-is
    ] in
    let known : ℕ = (l.end.at + (2 ^ 64 - c.args.start)) % 2 ^ 64 in
    let low = inside fed l.end placed.end in
    let order = chosen.order in
    let known_is : known ≡ l.end.at - t.start = omega (arith, start, low, few, order) in
    let within : known ≤ length c.args.text.now = c.if-known-text.true in
    let high : l.end.at ≤ t.end = omega (arith, within, known_is, order, ends) in
    let left = to_end c.args.text.now known ∙ ap (λ k. drop k c.args.text.now) known_is ∙ ap (drop (l.end.at - t.start)) text ∙ part_left fed t.start l.end.at t.end order high in
    let ends_at : m.end.at ≡ l.end.at = ap (λ (k : Mark). k.at) chosen.same_end in
    let counted : IsAfter (take m.end.at fed) m.end = subst (λ (k : Mark). IsAfter (take k.at fed) k) (sym chosen.same_end) placed.end in
    moved_to fed tokens t l m c.past-self.result m.counts chosen (omega (arith, ends)) (passed fed m.end c.past-self.result _ t.end counted (omega (arith, ends_at, high)) inside_fed few (left ∙ ap (λ i. part fed i t.end) (sym ends_at)) c.past-self.ensures)

pub returns-else-known-text-clause-moved : goal.returns-else-known-text-clause-moved
returns-else-known-text-clause-moved c fed tokens t placed follows start ends inside_fed few text =
    let l = c.args.self.now in
    let m = c.if-start-self.self in
    let chosen : Chosen fed t.start l m = elim c.if-start-self.branch [
      | then-start-self w ↦ chosen_end fed tokens t.start l m placed (sym start ∙ w.if-start-self.true) w.self-is
      | else-start-self w ↦ chosen_start fed tokens t.start l m placed follows (λ e. w.if-start-self.false (start ∙ e)) w.self-is
    ] in
    moved_to fed tokens t l m c.past-self-else-known-text.result m.counts chosen (omega (arith, ends)) (passed fed m.start c.past-self-else-known-text.result c.args.text.now t.end chosen.counted (let at = chosen.at_is in omega (arith, at, ends)) inside_fed few (text ∙ ap (λ i. part fed i t.end) (sym chosen.at_is)) c.past-self-else-known-text.ensures)
