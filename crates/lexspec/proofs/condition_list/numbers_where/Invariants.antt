use Rattle.std.proofs.Common.{◌≡◌, ℕ, ◌<◌, ◌++◌, ◌-◌, Bool, false}
use Rattle.std.specs.Prelude.{slice_index_or}
use Rattle.std.specs.List.{filter, range_with_len}
use Rattle.lex_semantics.specs.Text.{listed}
use Rattle.lexspec.proofs.condition_list.numbers_where.Given as goal
use Rattle.lex_semantics.specs.Limits.{max_conditions}

abbrev pub invariant-loop-number : goal.invariant-loop-number
invariant-loop-number l = (test : ℕ → Bool) → ((c : ℕ) → c < max_conditions → slice_index_or l.flags c false ≡ test c)
    → l.numbers.items ++ listed test l.number (l.count - l.number) ≡ filter test (range_with_len 0 l.count)
