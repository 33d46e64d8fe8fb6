use Rattle.std.proofs.Common.{◌≡◌, ◌-◌, length, take, drop, refl, ap, subst, ◌∙◌, arith}
use Rattle.std.specs.Prelude.{nat_eq}
use Rattle.std.proofs.lemmas.List.{take_rest, take-take, length-take, length-drop, get_or-take}
use Rattle.lex_machine.specs.Singles.{IsCopied}
use Rattle.lexscan.proofs.singles.pass_copied.Goals as goal

pub returns-then-not-tried-clause-passed : goal.returns-then-not-tried-clause-passed
returns-then-not-tried-clause-passed g c = record {
  count = 0;
  singles = (omega arith, λ i less. absurd (omega (arith, less)));
  left_is = refl;
}

pub returns-then-not-tried-clause-bytes : goal.returns-then-not-tried-clause-bytes
returns-then-not-tried-clause-bytes g c =
    let bytes = c.args.bytes.now in
    let none : 0 ≡ length bytes - length bytes = omega arith in
    subst (λ n. g.K.Sink.wrote c.args.outlet.now.sink.now (take n bytes) c.args.outlet.now.sink.now) none (g.met.K.Sink.wrote_none _)

pub returns-clause-passed : goal.returns-clause-passed
returns-clause-passed g c =
    let M = g.M.Machine.machine c.args.machine.now in
    let first = c.args.first in
    let bytes = c.args.bytes.now in
    let most = c.min-most.result in
    let count = c.copied-count.result in
    let held = c.hold-held.result in
    let run = c.copied-count.ensures in
    let fits = run.0 in
    let few = c.hold-held.ensures.few in
    let below = length-take most bytes in
    let held_below = length-take count bytes in
    record {
      count = held;
      singles = (
        omega (arith, fits, few, below, held_below),
        λ i less. subst (λ b. IsCopied M first b × (M.start c.args.condition (nat_eq b 10) ≡ first)) (get_or-take most bytes i 0 (omega (arith, less, fits, few, below, held_below))) (run.1 i (omega (arith, less, few, held_below))),
      );
      left_is = take_rest bytes held;
    }

pub returns-clause-bytes : goal.returns-clause-bytes
returns-clause-bytes g c =
    let bytes = c.args.bytes.now in
    let most = c.min-most.result in
    let count = c.copied-count.result in
    let held = c.hold-held.result in
    let fits = c.copied-count.ensures.0 in
    let few = c.hold-held.ensures.few in
    let below = length-take most bytes in
    let held_below = length-take count bytes in
    let size = ap (λ l. length l) (take_rest bytes held) ∙ length-drop held bytes in
    let passed : held ≡ length bytes - length (take (length bytes - held) (drop held bytes)) = omega (arith, fits, few, below, held_below, size) in
    subst (λ n. g.K.Sink.wrote c.args.outlet.now.sink.now (take n bytes) c.hold-held.new.self.sink.now) passed
    (subst (λ l. g.K.Sink.wrote c.args.outlet.now.sink.now l c.hold-held.new.self.sink.now) (take-take held count bytes (omega (arith, few, held_below))) c.hold-held.ensures.bytes)
