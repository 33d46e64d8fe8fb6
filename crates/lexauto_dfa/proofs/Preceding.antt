-- What is known of the states that go to a state, with one state more, and what follows for cutting.
use Rattle.std.proofs.Common.{◌≡◌, ℕ, ◌<◌, ◌++◌, [], take, drop, List, length, inl, inr, sym, subst, ap, ◌∙◌, arith}
use Rattle.std.specs.Prelude.{slice_set}
use Rattle.std.proofs.lemmas.Bool.{cases_eq}
use Rattle.std.proofs.lemmas.Grind.{get_or-set_at}
use Rattle.std.proofs.lemmas.List.{get_or-set_other, take-append-le}
use Rattle.std.proofs.Math.ListN.{drop_of_length-le}
use Rattle.std.proofs.Math.Seq.{take-length}
use Rattle.lexauto_dfa.specs.declared.least.predecessors.Predecessors.{Predecessors}
use Rattle.lexauto_dfa.specs.declared.least.predecessors.Predecessors.TheVariants as P
use Rattle.lexauto_dfa.specs.Predecessors.{Allows, AreBelow, known_of}

-- what is known of the state at the place is put there anew
module _ (known : List Predecessors) (place : ℕ) (new : Predecessors) (low : place < length known) where
  pub at_place : (t : ℕ) → t ≡ place → known_of (slice_set known place new) t ≡ new
  at_place t e = get_or-set_at known place t new P.None e low

  pub keeps_all : ((x : ℕ) → Allows (known_of known place) x → Allows new x)
      → (t x : ℕ) → Allows (known_of known t) x → Allows (known_of (slice_set known place new) t) x
  keeps_all more t x a = elim (cases_eq t place) [
    | inl e ↦ subst (λ (p : Predecessors). Allows p x) (sym (at_place t e)) (more x (subst (λ (s : ℕ). Allows (known_of known s) x) e a))
    | inr ne ↦ subst (λ (p : Predecessors). Allows p x) (sym (get_or-set_other known place t new P.None ne)) a
  ]

  pub still_below : (n : ℕ) → AreBelow n known → ((x : ℕ) → new ≡ P.One x → x < n) → AreBelow n (slice_set known place new)
  still_below n below one t x is = elim (cases_eq t place) [
    | inl e ↦ one x (sym (at_place t e) ∙ is)
    | inr ne ↦ below t x (sym (get_or-set_other known place t new P.None ne) ∙ is)
  ]

-- what is written over a whole list is the list then
pub written : (old new : List Predecessors) (n : ℕ) → length new ≡ length old → length old ≡ n → take n (new ++ drop (length new) old) ≡ new
written old new n same len =
    let none : drop (length new) old ≡ [] = drop_of_length-le old (omega (arith, same)) in
    ap (λ (l : List Predecessors). take n (new ++ l)) none ∙ take-append-le n new [] (omega (arith, same, len))
    ∙ ap (λ (k : ℕ). take k new) (let e : n ≡ length new = omega (arith, same, len) in e) ∙ take-length new
