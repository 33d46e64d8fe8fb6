use Rattle.std.proofs.Common.{◌≡◌, ◌++◌, ◌-◌, ◌*◌, min, length}
use Rattle.lex_semantics.specs.Text.{listed}
use Rattle.lexauto.specs.KeyPacking.{bit_at, bit_count}
use Rattle.lexauto.proofs.key_packing.add_words.Given as goal

abbrev pub invariant-loop-at : goal.invariant-loop-at
invariant-loop-at l = l.key.items ++ listed (bit_at l.words) (l.at * 32) ((min (length l.words) 512 - l.at) * 32) ≡ l.fn.key.items ++ listed (bit_at l.words) 0 (bit_count l.words)
