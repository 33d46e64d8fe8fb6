-- Passing over bytes that lead from a state to itself.
use Rattle.std.proofs.Common.{◌≡◌, ℕ, zero, suc, ◌+◌, ◌*◌, ◌<◌, ◌≤◌, true, List, [], ◌∷◌, ◌++◌, length, get_or, None, inl, inr, refl, sym, ap, subst, ◌∙◌, arith}
use Rattle.std.specs.Prelude.{Option}
use Rattle.std.specs.Option.{ForSome}
use Rattle.std.proofs.lemmas.Bool.{cases_lt}
use Rattle.lex_semantics.specs.Text.{flag}
use Rattle.lex_semantics.specs.Machine.{Machine}
use Rattle.lextab_packed.specs.declared.tables.Tables.{Tables}
use Rattle.lextab_packed.specs.declared.flat.Flat.{Flat}
use Rattle.lextab_packed.specs.declared.leaps.Leavers.{Leavers}
use Rattle.lextab_packed.specs.Flats.{as_target, kind_of}
use Rattle.lextab_packed.specs.Leaps.{AllOthers, OthersStay}
use Rattle.lextab_packed.specs.Machines.{table_machine, table_states}
use Rattle.lextab_packed.specs.Runs.{Stays, IsRun}
use Rattle.lextab_packed.specs.Steps.{step_of}
use Rattle.lextab_packed.specs.Views.{table_of}
use Rattle.lextab_packed.proofs.Marks as Mark

-- a state whose target by a byte is its own row
stays_at : (t : Tables) (rows : List ℕ) (s b : ℕ) → s < table_states t →
    get_or rows (256 * s + b) 0 ≡ as_target (flag t.goes_on.items (step_of (table_of t.parts) s b)) (kind_of (table_machine t) (step_of (table_of t.parts) s b)) (step_of (table_of t.parts) s b) →
    get_or rows (256 * s + b) 0 ≡ 256 * s → ((table_machine t).next s b ≡ s) × ((table_machine t).goes_on s ≡ true)
stays_at t rows s b known is same =
    let M : Machine = table_machine t in
    let next : ℕ = step_of (table_of t.parts) s b in
    let g = Mark.gone (flag t.goes_on.items next) (kind_of M next) next (256 * s) (sym same ∙ is) (omega (arith, known, Mark.few_states t)) in
    let e : next ≡ s = omega (arith, g.1) in
    (e, subst (λ n. M.goes_on n ≡ true) e g.0)

-- bytes that are none of the three make a run
pub run_of : (f : Flat) (s : ℕ) (bytes : List ℕ) (start end : ℕ) (l : Leavers) → s < table_states f.tables → OthersStay f.rows.items (256 * s) l → ((i : ℕ) → get_or bytes i 0 < 256) → AllOthers l bytes start end →
    Stays (table_machine f.tables) s bytes start end
run_of f s bytes start end l known stay small all = record {
  order = all.order;
  inside = all.inside;
  stays = λ i low high. (at i low high).0;
  goes_on = λ some. (at start (omega arith) some).1;
}
  where
    at : (i : ℕ) → start ≤ i → i < end → ((table_machine f.tables).next s (get_or bytes i 0) ≡ s) × ((table_machine f.tables).goes_on s ≡ true)
    at i low high =
        let b : ℕ = get_or bytes i 0 in
        stays_at f.tables f.rows.items s b known (f.targets s b known (small i)) (stay b (small i) (all.others i low high))

-- a byte at which a run ends leads elsewhere
pub leaves_at : (t : Tables) (s b r place : ℕ) → place ≡ 256 * s → r ≡ as_target (flag t.goes_on.items (step_of (table_of t.parts) s b)) (kind_of (table_machine t) (step_of (table_of t.parts) s b)) (step_of (table_of t.parts) s b) → (r ≡ place → ⊥) →
    (table_machine t).goes_on s ≡ true → (table_machine t).next s b ≡ s → ⊥
leaves_at t s b r place is told ne live back =
    let M : Machine = table_machine t in
    let next : ℕ = step_of (table_of t.parts) s b in
    let on : flag t.goes_on.items next ≡ true = ap M.goes_on back ∙ live in
    ne (told ∙ ap (λ f. as_target f (kind_of M next) next) on ∙ ap (λ n. 256 * n) back ∙ sym is)

-- a run to its end
pub ends_at : (M : Machine) (s : ℕ) (bytes : List ℕ) (start end : ℕ) → Stays M s bytes start end → (end < length bytes → M.goes_on s ≡ true → M.next s (get_or bytes end 0) ≡ s → ⊥) → IsRun M s bytes start end
ends_at M s bytes start end run leaves = record { order = run.order; inside = run.inside; stays = run.stays; goes_on = run.goes_on; leaves = leaves }

-- a run after a run
pub run_then : (M : Machine) (s : ℕ) (bytes : List ℕ) (a b c : ℕ) → Stays M s bytes a b → IsRun M s bytes b c → IsRun M s bytes a c
run_then M s bytes a b c p q = record {
  order = omega (arith, p.order, q.order);
  inside = q.inside;
  stays = λ i low high. elim (cases_lt i b) [
    | inl before ↦ p.stays i low before
    | inr after ↦ q.stays i after high
  ];
  goes_on = λ some. elim (cases_lt a b) [
    | inl first ↦ p.goes_on first
    | inr none ↦ q.goes_on (omega (arith, some, none))
  ];
  leaves = q.leaves;
}

-- one element more
get_before : {A : Type 0} (xs : List A) (y d : A) (n : ℕ) → n < length xs → get_or (xs ++ y ∷ []) n d ≡ get_or xs n d
get_before [] y d n lt = absurd (omega (arith, lt))
get_before (x ∷ xs) y d zero lt = refl
get_before (x ∷ xs) y d (suc n) lt = get_before xs y d n (omega (arith, lt))

get_last : {A : Type 0} (xs : List A) (y d : A) → get_or (xs ++ y ∷ []) (length xs) d ≡ y
get_last [] y d = refl
get_last (x ∷ xs) y d = get_last xs y d

pub leaps_more : (rows : List ℕ) (xs : List (Option Leavers)) (n : ℕ) (y : Option Leavers) → length xs ≡ n → ((s : ℕ) → s < n → ForSome (get_or xs s None) (λ l. OthersStay rows (256 * s) l)) → ForSome y (λ l. OthersStay rows (256 * n) l) →
    (s : ℕ) → s < n + 1 → ForSome (get_or (xs ++ y ∷ []) s None) (λ l. OthersStay rows (256 * s) l)
leaps_more rows xs n y len all here s lt = elim (cases_lt s n) [
  | inl low ↦ (λ l is. all s low l (sym (get_before xs y None s (omega (arith, len, low))) ∙ is))
  | inr high ↦ (
      let e : s ≡ length xs = omega (arith, len, lt, high) in
      let e' : n ≡ s = omega (arith, lt, high) in
      λ l is. subst (λ k. OthersStay rows (256 * k) l) e' (here l (sym (get_last xs y None) ∙ ap (λ k. get_or (xs ++ y ∷ []) k None) (sym e) ∙ is))
      )
]
