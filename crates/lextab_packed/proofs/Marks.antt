-- Marked targets.
use Rattle.std.proofs.Common.{◌≡◌, ℕ, ◌+◌, ◌*◌, ◌%◌, ◌≤◌, ◌<◌, Bool, true, false, List, length, take, get_or, refl, sym, ap, subst, ◌∙◌, arith}
use Rattle.std.proofs.lemmas.List.{length-map}
use Rattle.lex_semantics.specs.Text.{flag}
use Rattle.lex_semantics.specs.Machine.{Machine, walk}
use Rattle.lextab_packed.specs.declared.tables.Tables.{Tables}
use Rattle.lextab_packed.specs.Flats.{as_target, stop_of, kind_of}
use Rattle.lextab_packed.specs.declared.kinds.Kind.{Kind}
use Rattle.lextab_packed.specs.declared.kinds.Kind.TheVariants.{Any, NoRule, Silent, Echo, Print, Begin, Several}
use Rattle.lextab_packed.specs.Steps.{step_of}
use Rattle.lextab_packed.specs.Views.{table_of, row_of}
use Rattle.lextab_packed.specs.Machines.{table_machine, table_states}
use Rattle.lextab_packed.proofs.Ways.{walk_more, asked_more, Asked}

stop_least : (k : Kind) → 2147483648 ≤ stop_of k
stop_least Any = omega arith
stop_least NoRule = omega arith
stop_least Silent = omega arith
stop_least Echo = omega arith
stop_least (Print rule) = omega arith
stop_least (Begin c) = omega arith
stop_least (Several rule) = omega arith

pub stopped : (f : Bool) (k : Kind) (t r : ℕ) → r ≡ as_target f k t → t ≤ 8192 → 2147483648 ≤ r → (f ≡ false) × (r ≡ as_target false k t)
stopped true k t r e low high = absurd (omega (arith, e, low, high))
stopped false k t r e low high = (refl, e)

pub gone : (f : Bool) (k : Kind) (t r : ℕ) → r ≡ as_target f k t → r < 2147483648 → (f ≡ true) × (r ≡ 256 * t)
gone true k t r e less = (refl, e)
gone false k t r e less = let s = stop_least k in absurd (omega (arith, e, less, s))

-- the state of a mark
pub state_in : (k : Kind) (t r : ℕ) → r ≡ as_target false k t → t ≤ 8192 → r % 1048576 ≡ t
state_in Any t r e low = omega (arith, e, low)
state_in NoRule t r e low = omega (arith, e, low)
state_in Silent t r e low = omega (arith, e, low)
state_in Echo t r e low = omega (arith, e, low)
state_in (Print rule) t r e low = omega (arith, e, low)
state_in (Begin c) t r e low = omega (arith, e, low)
state_in (Several rule) t r e low = omega (arith, e, low)

module _ (t : Tables) where
  pub few_states : table_states t ≤ 8192
  few_states = let s = t.lawful.sizes.some_states.1 in omega (arith, s, length-map t.parts.rows.items row_of)

  -- a step from the state after some bytes
  module _ (first n : ℕ) (bytes : List ℕ) (lt : n < length bytes) (small : get_or bytes n 0 < 256) (known : walk (table_machine t) first (take n bytes) < table_states t) where
    abbrev M : Machine
    M = table_machine t

    abbrev s : ℕ
    s = walk M first (take n bytes)

    abbrev next : ℕ
    next = step_of (table_of t.parts) s (get_or bytes n 0)

    pub next_is : next ≡ walk M first (take (n + 1) bytes)
    next_is = sym (walk_more M first bytes n lt)

    pub next_below : next < table_states t
    next_below = t.below.next s (get_or bytes n 0) known small

    -- the machine goes on after it
    pub goes_further : (r : ℕ) → r ≡ as_target (flag t.goes_on.items next) (kind_of M next) next → r < 2147483648 → Asked M first bytes n → (r ≡ 256 * walk M first (take (n + 1) bytes)) × (walk M first (take (n + 1) bytes) < table_states t) × Asked M first bytes (n + 1)
    goes_further r e less asked =
        let g = gone (flag t.goes_on.items next) (kind_of M next) next r e less in
        (g.1 ∙ ap (λ k. 256 * k) next_is, subst (λ k. k < table_states t) next_is next_below, asked_more M first bytes n asked (subst (λ k. M.goes_on k ≡ true) next_is g.0))
