use Rattle.std.proofs.Common.{◌∙◌, ◌==◌, ◌&&◌, ◌-◌, not, sym, ap, length, get_or}
use Rattle.std.proofs.lemmas.Bool.{eq-eqb, ne_eqb}
use Rattle.lexspec_lines.proofs.TextLaws.{ends_by_last, anchored_is}
use Rattle.lexspec_lines.proofs.definition.ends_anchored.Goals as goal

pub returns-then-text-count-eq36 : goal.returns-then-text-count-eq36
returns-then-text-count-eq36 c =
    let t = c.args.text.now in
    sym (ends_by_last t c.if-count-eq0.false c.if-count-eq1.false ∙ ap (λ z. z && not (get_or t (length t - 2) 0 == 92)) (eq-eqb (get_or t (length t - 1) 0) 36 c.if-text-count-eq36.true)) ∙ anchored_is t

pub returns-else-text-count-eq36 : goal.returns-else-text-count-eq36
returns-else-text-count-eq36 c =
    let t = c.args.text.now in
    let off = ne_eqb (get_or t (length t - 1) 0) 36 c.if-text-count-eq36.false in
    off ∙ sym (ends_by_last t c.if-count-eq0.false c.if-count-eq1.false ∙ ap (λ z. z && not (get_or t (length t - 2) 0 == 92)) off) ∙ anchored_is t
