-- The faults that are told so far, and those behind them.
use Rattle.std.proofs.Common.{◌≡◌, ◌≢◌, ℕ, ◌+◌, ◌-◌, ◌<◌, ◌≤◌, false, List, [], ◌∷◌, ◌++◌, length, Option, Some, None, Result, Ok, Err, refl, sym, subst, append_assoc, append-nil, length-append, arith, ◌∙◌}
use Rattle.lexre_bytes.specs.declared.refusals.SpecError.{SpecError}
use Rattle.lexkit.specs.Faults.{lacks_memory}
use Rattle.lexlook_check.specs.Leaving.{without_rule_at}
use Rattle.lexlook_check.specs.Finding.{AreFaultsOf, max_faults}

-- what is told of the text that is left is told of the whole, behind those told so far
pub record LeadsTo (reads : List ℕ → Result (Unit {0}) SpecError → Type 0) (whole left : List ℕ) (told : List SpecError) : Type 0 where
  pub few : length told ≤ max_faults
  pub behind : (es : List SpecError) (rest : Option (List ℕ)) → AreFaultsOf reads (max_faults - length told) left es rest
      → AreFaultsOf reads max_faults whole (told ++ es) rest

at_first : (reads : List ℕ → Result (Unit {0}) SpecError → Type 0) (whole : List ℕ) → LeadsTo reads whole whole []
at_first reads whole = record { few = omega arith; behind = λ es rest h. h }

pub begins : (reads : List ℕ → Result (Unit {0}) SpecError → Type 0) (whole left : List ℕ) (told : List SpecError) → left ≡ whole → told ≡ [] → LeadsTo reads whole left told
begins reads whole left told same none =
    subst (λ (t : List SpecError). LeadsTo reads whole left t) (sym none)
    (subst (λ (x : List ℕ). LeadsTo reads whole x []) (sym same) (at_first reads whole))

-- the text that is left is taken
pub taken : (reads : List ℕ → Result (Unit {0}) SpecError → Type 0) (whole left : List ℕ) (told : List SpecError) → LeadsTo reads whole left told
    → reads left (Ok tt) → AreFaultsOf reads max_faults whole told (Some left)
taken reads whole left told h ok =
    subst (λ (t : List SpecError). AreFaultsOf reads max_faults whole t (Some left)) (append-nil told) (h.behind [] (Some left) (refl, ok))

-- no more may be told
pub filled : (reads : List ℕ → Result (Unit {0}) SpecError → Type 0) (whole left : List ℕ) (told : List SpecError) → LeadsTo reads whole left told
    → max_faults ≤ length told → AreFaultsOf reads max_faults whole told None
filled reads whole left told h many =
    let none : max_faults - length told ≡ 0 = omega (arith, many) in
    subst (λ (t : List SpecError). AreFaultsOf reads max_faults whole t None) (append-nil told) (h.behind [] None none)

-- nothing can be left out
pub stopped : (reads : List ℕ → Result (Unit {0}) SpecError → Type 0) (whole left : List ℕ) (told told' : List SpecError) (e : SpecError) → LeadsTo reads whole left told
    → length told < max_faults → reads left (Err e) → lacks_memory e.kind ≡ false → told' ≡ told ++ e ∷ [] → without_rule_at e.line left ≡ left
    → AreFaultsOf reads max_faults whole told' None
stopped reads whole left told told' e h few read known new same =
    subst (λ (t : List SpecError). AreFaultsOf reads max_faults whole t None) (sym new)
    (h.behind (e ∷ []) None (omega (arith, few), read, known, λ s. (refl, refl), λ other. absurd (other same)))

one_more : (reads : List ℕ → Result (Unit {0}) SpecError → Type 0) (whole left : List ℕ) (told : List SpecError) (e : SpecError) → LeadsTo reads whole left told
    → length told < max_faults → reads left (Err e) → lacks_memory e.kind ≡ false → without_rule_at e.line left ≢ left
    → LeadsTo reads whole (without_rule_at e.line left) (told ++ e ∷ [])
one_more reads whole left told e h few read known other =
    let long : length (told ++ e ∷ []) ≡ length told + 1 = length-append told (e ∷ []) in
    let count : max_faults - length (told ++ e ∷ []) ≡ max_faults - length told - 1 = omega (arith, long) in
    record {
      few = omega (arith, long, few);
      behind = λ es rest more.
          subst (λ (t : List SpecError). AreFaultsOf reads max_faults whole t rest) (sym (append_assoc told (e ∷ []) es))
          (h.behind (e ∷ es) rest (
            omega (arith, few),
            read,
            known,
            λ same. absurd (other same),
            λ ne. subst (λ (n : ℕ). AreFaultsOf reads n (without_rule_at e.line left) es rest) count more,
          ));
    }

-- a fault more, and the text without its rule
pub goes_on : (reads : List ℕ → Result (Unit {0}) SpecError → Type 0) (whole left next : List ℕ) (told told' : List SpecError) (e : SpecError) → LeadsTo reads whole left told
    → length told < max_faults → reads left (Err e) → lacks_memory e.kind ≡ false → told' ≡ told ++ e ∷ [] → next ≡ without_rule_at e.line left → next ≢ left
    → LeadsTo reads whole next told'
goes_on reads whole left next told told' e h few read known new is other =
    subst (λ (t : List SpecError). LeadsTo reads whole next t) (sym new)
    (subst (λ (x : List ℕ). LeadsTo reads whole x (told ++ e ∷ [])) (sym is)
    (one_more reads whole left told e h few read known (λ same. other (is ∙ same))))
