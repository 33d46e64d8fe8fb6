use Rattle.std.proofs.Common.{◌≡◌, ◌+◌, ◌-◌, ◌*◌, ◌++◌}
use Rattle.lex_semantics.specs.Text.{listed}
use Rattle.lexauto.specs.KeyPacking.{bit_at, word_bits}
use Rattle.lexauto.proofs.key_packing.add_word.Given as goal

abbrev pub invariant-loop-bit : goal.invariant-loop-bit
invariant-loop-bit l = l.key.items ++ listed (bit_at l.words) (l.at * 32 + l.bit) (l.at * 32 + word_bits - (l.at * 32 + l.bit)) ≡ l.fn.key.items ++ listed (bit_at l.words) (l.at * 32) word_bits
