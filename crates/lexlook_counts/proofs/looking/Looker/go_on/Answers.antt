use Rattle.std.proofs.Common.{◌≡◌, ◌-◌, length, drop, refl, ◌∙◌, ap, arith, length-drop}
use Rattle.std.proofs.lemmas.List.{drop-drop}
use Rattle.lexlook_counts.proofs.looking.Looker.go_on.Goals as goal

pub returns-then-len-done-clause-holds : goal.returns-then-len-done-clause-holds
returns-then-len-done-clause-holds c given at h =
    let l = c.args.self.now in
    let size : length l.bytes.items ≡ length given - l.base = ap length h.bytes ∙ length-drop l.base given in
    c.forget.ensures.holds given c.args.end (record {
      inside = omega (arith, size, h.inside, c.min-done.ensures, c.len.ensures);
      bytes = c.drop_front.ensures ∙ ap (drop c.min-done.result) h.bytes ∙ drop-drop c.min-done.result l.base given;
      here = refl;
      marks = h.marks;
    })
