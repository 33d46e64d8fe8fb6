-- The worked examples of machines.
use mathlib.Core.Logic.{∥∥₁_elim}
use Rattle.std.proofs.Props.{props}
use Rattle.std.proofs.Common.{◌≡◌, ℕ, ◌<◌, Bool, true, false, if◌then◌else◌, [], ◌∷◌, refl, inl, arith}
use Rattle.std.specs.Prelude.{nat_eq}
use Rattle.std.proofs.lemmas.Bool.{eqb-true}
use Rattle.lex_semantics.specs.Text.{Among}
use Rattle.lex_semantics.specs.MachineLaws.{MachineLaws, StaysBelow, Rejects}
use Rattle.lex_semantics.specs.MachineExamples as M

below_if : (n a b : ℕ) (t : Bool) → a < n → b < n → (if t then a else b) < n
below_if n a b true h k = h
below_if n a b false h k = k

pub five_states : StaysBelow M.abc 5
five_states = record {
  dead = omega arith;
  start = λ c line_start lt. omega arith;
  next = λ s b lt byte. below_if 5 2 _ _ (omega arith) (below_if 5 3 _ _ (omega arith) (below_if 5 4 0 _ (omega arith) (omega arith)));
  accepts = λ s i h. accepting s i h;
}
  where
    accepting : (s i : ℕ) → Among (M.abc.accepts s) i → s < 5
    accepting s i h = from (nat_eq s 4) refl h
      where
        from : (b : Bool) → nat_eq s 4 ≡ b → Among (if b then 0 ∷ [] else []) i → s < 5
        from true e k = let is : s ≡ 4 = eqb-true s 4 e in omega arith
        from false e k = absurd k

pub no_fewer : StaysBelow M.abc 4 → ⊥
no_fewer h = let bad : 4 < 4 = h.accepts 4 0 (inl refl) in omega arith

pub some_state : StaysBelow M.nothing 0 → ⊥
some_state h = omega (arith, h.dead)

pub no_reject : Rejects M.abc false
no_reject = λ i lt. refl

no_both : false ≡ true → ⊥
no_both p = cc

pub not_some : Rejects M.abc true → ⊥
not_some h = no_both h.2

pub some_reject : Rejects M.many_or_two true
some_reject = (0, omega arith, refl)

pub not_none : Rejects M.many_or_two false → ⊥
not_none h = other (h 0 (omega arith))
  where
    other : true ≡ false → ⊥
    other p = cc

same_bool : (a b : Bool) → IsProp (a ≡ b)
same_bool a b = Prim.hlevel props

pub prints_twice : MachineLaws M.prints_twice
prints_twice = record {
  some_condition = omega arith;
  in_range = λ s i among. absurd among;
  ascending = λ s. tt;
  dead_stays = λ b. refl;
  dead_accepts = refl;
  goes_on = λ s. (λ go. absurd (no_both go), λ leads. ∥∥₁_elim leads (same_bool false true) (λ (u, text, some, i, among). absurd among));
  legal = λ i lt. record { ranges = refl; last = refl; compatible = refl };
}
