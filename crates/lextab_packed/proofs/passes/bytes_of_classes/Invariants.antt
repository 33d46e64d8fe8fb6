use Rattle.std.proofs.Common.{◌≡◌, ℕ, ◌+◌, ◌%◌, ◌<◌, true, length, slice_index}
use Rattle.lex_semantics.specs.Text.{flag}
use Rattle.lextab_packed.specs.Passes.{HasClass}
use Rattle.lextab_packed.proofs.passes.bytes_of_classes.Given as goal

abbrev pub invariant-loop-place : goal.invariant-loop-place
invariant-loop-place l = record {
  size : length l.seen ≡ 256;
  some : (x : ℕ) → flag l.seen x ≡ true → HasClass l.class_of l.bytes.items x;
  all : (k : ℕ) → k < l.place → flag l.seen (slice_index l.class_of ((48 + k) % 256)) ≡ true;
}
