use Rattle.std.proofs.Common.{◌≡◌, ◌+◌, ◌-◌, ◌<◌, subst, sym, arith, rules, length-set, ◌∙◌}
use Rattle.std.specs.Prelude.{slice_index}
use Rattle.std.proofs.Common.{slice_set}
use Rattle.lextab_packed.specs.Alike.{AreAlike}
use Rattle.lextab_packed.proofs.Alikes.{none_yet, one_before}
use Rattle.lextab_packed.proofs.alike.alike_of.Goals as goal

pub bytes-init : goal.bytes-init
bytes-init c = record { inside = omega arith; firsts_len = search rules; afters_len = search rules; alike = none_yet c.args.class_of.now }

pub bytes-preserved : goal.bytes-preserved
bytes-preserved c =
    let b = c.bytes.byte - 1 in
    let bytes = c.args.class_of.now in
    let firsts = c.bytes.first in
    let afters = c.bytes.after in
    let lt : b < 256 = omega arith in
    let back : c.bytes.byte ≡ b + 1 = omega arith in
    let fits = c.type_inv.class_of b in
    let low : slice_index bytes b < 256 = omega (arith, fits) in
    let one = one_before bytes firsts afters b lt c.bytes.invariant.firsts_len c.bytes.invariant.afters_len low (subst (AreAlike bytes firsts afters) back c.bytes.invariant.alike) in
    record {
      inside = omega arith;
      firsts_len = length-set firsts c.from-class.result b ∙ c.bytes.invariant.firsts_len;
      afters_len = length-set afters b (slice_index firsts c.from-class.result) ∙ c.bytes.invariant.afters_len;
      alike = subst (λ k. AreAlike bytes (slice_set firsts k b) (slice_set afters b (slice_index firsts k)) b) (sym c.from-class.ensures) one;
    }
