use Rattle.std.proofs.Common.{◌≡◌, ◌+◌, ◌%◌, true, slice_index, refl, subst, arith}
use Rattle.lex_semantics.specs.Text.{flag}
use Rattle.lextab_packed.proofs.Passing.{none_set}
use Rattle.lextab_packed.proofs.passes.bytes_of_classes.Goals as goal

pub loop-place-init : goal.loop-place-init
loop-place-init c = record {
  size = refl;
  some = λ x t. absurd (none_set 256 x t);
  all = λ k h. absurd (omega (arith, h));
}

pub returns : goal.returns
returns c b byte =
    let class_of = c.args.class_of.now in
    let e : (48 + (b + 208) % 256) % 256 ≡ b = omega (arith, byte) in
    let seen = c.loop-place.invariant.all ((b + 208) % 256) (omega (arith, c.loop-place-test.false)) in
    c.loop-place.invariant.some (slice_index class_of b) (subst (λ x. flag c.loop-place.seen (slice_index class_of x) ≡ true) e seen)
