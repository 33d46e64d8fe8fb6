-- Tables are machines.
use mathlib.Core.Logic.{∥∥₁_elim, ∥∥₁_map}
use Rattle.std.proofs.Props.{props}
use Rattle.std.proofs.Common.{◌≡◌, ◌↔◌, ℕ, zero, suc, ◌<◌, Bool, true, false, List, [], ◌∷◌, length, refl, sym, subst, arith, inl, inr, Some}
use Rattle.std.specs.Prelude.{slice_get}
use Rattle.std.proofs.lemmas.Bool.{cases_lt, both_ways}
use Rattle.lex_semantics.specs.Text.{Among, Ascending, flag}
use Rattle.lex_semantics.specs.Legal.{IsAction}
use Rattle.lex_semantics.proofs.Actions.{action_of}
use Rattle.lex_semantics.specs.Machine.{Machine, walk}
use Rattle.lex_semantics.specs.MachineLaws.{MachineLaws, LeadsToAccept, StaysBelow}
use Rattle.lextab_packed.specs.Table.{Table, ConditionOfTable, RuleOfTable}
use Rattle.lextab_packed.specs.Checks.{Each, Sizes, sizes_of, IsCondition, IsTableRule, IsTable}
use Rattle.lextab_packed.specs.Steps.{step_of, machine_of_table}
use Rattle.lextab_packed.proofs.Finding.{start_at, statements_at, accepted_in}
use Rattle.lextab_packed.specs.Invariant.{GoesOn}
use Rattle.lextab_packed.proofs.Places.{past_end, row_is, step_below, step_dead, dead_accepts, past_accepts, nowhere}

same_bool : (a b : Bool) → IsProp (a ≡ b)
same_bool a b = Prim.hlevel props

legal_from : (z : Sizes) (n : ℕ) (rs : List RuleOfTable) (i : ℕ) → Each (IsTableRule z.conditions) n rs → i < length rs → IsAction z.conditions (statements_at (slice_get rs i))
legal_from z n [] i h lt = absurd (omega (arith, lt))
legal_from z n (r ∷ rs) zero h lt = action_of z.conditions r.statements h.0.legal
legal_from z n (r ∷ rs) (suc i) h lt = legal_from z (suc n) rs i h.1 (omega (arith, lt))

start_of : (n : ℕ) (c : ConditionOfTable) (line_start : Bool) → c.start < n → c.line_start < n → start_at (Some c) line_start < n
start_of n c true h k = k
start_of n c false h k = h

start_from : (z : Sizes) (n : ℕ) (cs : List ConditionOfTable) (i : ℕ) (line_start : Bool) → Each (IsCondition z.states) n cs → i < length cs → start_at (slice_get cs i) line_start < z.states
start_from z n [] i line_start h lt = absurd (omega (arith, lt))
start_from z n (c ∷ cs) zero line_start h lt = start_of z.states c line_start h.0.start h.0.line_start
start_from z n (c ∷ cs) (suc i) line_start h lt = start_from z (suc n) cs i line_start h.1 (omega (arith, lt))

module _ (t : Table) (ok : IsTable t) where
  accepts_below : (s i : ℕ) → Among (accepted_in t s) i → s < length t.rows
  accepts_below s i among = elim (cases_lt s (length t.rows)) [
    | inl h ↦ h
    | inr h ↦ absurd (subst (λ (l : List ℕ). Among l i) (past_accepts t ok s h) among)
  ]

  -- the machine stays in the table's states, whatever is said to go on
  pub below_of_table : (goes_on : ℕ → Bool) → StaysBelow (machine_of_table t goes_on) (length t.rows)
  below_of_table goes_on = record {
    dead = ok.sizes.some_states.0;
    start = λ c line_start h. start_from (sizes_of t) 0 t.conditions c line_start ok.conditions h;
    next = λ s b h k. step_below t ok s b;
    accepts = accepts_below;
  }

module _ (t : Table) (ok : IsTable t) (flags : List Bool) (goes : GoesOn t flags) where
  abbrev M : Machine
  M = machine_of_table t (λ s. flag flags s)

  -- the same machine, whatever goes on there
  abbrev plain : Machine
  plain = machine_of_table t (λ q. false)

  walk_after : (s : ℕ) (w : List ℕ) → walk M s w ≡ walk plain s w
  walk_after s [] = refl
  walk_after s (b ∷ w) = walk_after (step_of t s b) w

  there : (s : ℕ) → LeadsToAccept M s → LeadsToAccept plain s
  there s (u, text, some, i, a) = (u, text, some, i, subst (λ (q : ℕ). Among (accepted_in t q) i) (walk_after s u) a)

  back : (s : ℕ) → LeadsToAccept plain s → LeadsToAccept M s
  back s (u, text, some, i, a) = (u, text, some, i, subst (λ (q : ℕ). Among (accepted_in t q) i) (sym (walk_after s u)) a)

  leads : (s : ℕ) → (flag flags s ≡ true) ↔ ∥ LeadsToAccept plain s ∥₁
  leads s = elim (cases_lt s (length t.rows)) [
    | inl h ↦ goes.leads s h
    | inr h ↦ (
      λ g. absurd (both_ways (flag flags s) (past_end flags s false (let l = goes.len in omega (arith, l, h))) g),
      λ l. ∥∥₁_elim l (same_bool (flag flags s) true) (λ q. absurd (nowhere t ok s h q)),
    )
  ]

  in_range : (s i : ℕ) → Among (accepted_in t s) i → i < length t.rules
  in_range s i among = elim (cases_lt s (length t.rows)) [
    | inl h ↦ (row_is t ok s h).rules i among
    | inr h ↦ absurd (subst (λ (l : List ℕ). Among l i) (past_accepts t ok s h) among)
  ]

  ascending : (s : ℕ) → Ascending (accepted_in t s)
  ascending s = elim (cases_lt s (length t.rows)) [
    | inl h ↦ (row_is t ok s h).ascending
    | inr h ↦ subst Ascending (sym (past_accepts t ok s h)) tt
  ]

  pub machine_laws : MachineLaws M
  machine_laws = record {
    some_condition = ok.sizes.some_conditions.0;
    in_range = in_range;
    ascending = ascending;
    dead_stays = step_dead t ok;
    dead_accepts = dead_accepts t ok;
    goes_on = λ s. (λ g. ∥∥₁_map ((leads s).0 g) (back s), λ l. (leads s).1 (∥∥₁_map l (there s)));
    legal = λ i h. legal_from (sizes_of t) 0 t.rules i ok.rules h;
  }

  pub stays_below : StaysBelow M (length t.rows)
  stays_below = below_of_table t ok (λ s. flag flags s)
