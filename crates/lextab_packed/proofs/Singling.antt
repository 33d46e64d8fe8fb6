-- Bytes that are matches by themselves.
use Rattle.std.proofs.Common.{◌≡◌, ℕ, zero, suc, ◌+◌, ◌-◌, ◌*◌, ◌<◌, ◌≤◌, List, [], ◌∷◌, ◌++◌, length, take, drop, get_or, ◌⊎◌, inl, inr, refl, ap, subst, ◌∙◌, arith}
use Rattle.std.specs.Prelude.{slice_get, nat_eq}
use Rattle.std.specs.Option.{ForSome}
use Rattle.std.proofs.lemmas.Bool.{cases_lt}
use Rattle.std.proofs.lemmas.List.{length-take-le, length-drop, get_or-take, get_or-drop, take_rest}
use Rattle.std.proofs.lemmas.Option.{slice_get_read}
use Rattle.lex_semantics.proofs.Once.{some_inj}
use Rattle.lex_semantics.specs.Text.{flag}
use Rattle.lex_semantics.specs.Machine.{Machine}
use Rattle.lex_semantics.specs.Spec.{Echo}
use Rattle.lex_machine.specs.declared.glance.Gist.TheVariants as Gist
use Rattle.lex_machine.specs.Glances.{FirstDoes}
use Rattle.lex_machine.specs.Quiets.{quiet}
use Rattle.lex_machine.specs.Singles.{IsDropped, IsCopied, Singles}
use Rattle.lex_machine.proofs.Quieting.{quiet_gist}
use Rattle.lextab_packed.specs.declared.tables.Tables.{Tables}
use Rattle.lextab_packed.specs.declared.flat.Flat.{Flat}
use Rattle.lextab_packed.specs.declared.leaps.Leavers.{Leavers}
use Rattle.lextab_packed.specs.declared.singles.Most.{Most}
use Rattle.lextab_packed.specs.Flats.{kind_of, marked_target}
use Rattle.lextab_packed.specs.Leaps.{AllOthers}
use Rattle.lextab_packed.specs.Machines.{table_machine, table_states}
use Rattle.lextab_packed.specs.Singles.{StopsSilent, StopsCopying, OthersDrop, StartsIn, TellsSingles, FirstAre}
use Rattle.lextab_packed.specs.Steps.{step_of}
use Rattle.lextab_packed.specs.Views.{table_of}
use Rattle.lextab_packed.proofs.Columns.{marks_none, marks_silent, marks_echo}
use Rattle.lextab_packed.proofs.Marks as Mark

-- what the mark of a target says of the byte that leads to it
module _ (t : Tables) (s b r : ℕ) (known : s < table_states t) (small : b < 256) (is : r ≡ marked_target t s b) where
  abbrev M : Machine
  M = table_machine t

  abbrev next : ℕ
  next = step_of (table_of t.parts) s b

  low : next ≤ 8192
  low = let below = t.below.next s b known small in omega (arith, below, Mark.few_states t)

  pub dropped_by : StopsSilent r → IsDropped M s b
  dropped_by mark =
      let k = Mark.stopped (flag t.goes_on.items next) (kind_of M next) next r is low (omega (arith, mark.0)) in
      (k.0, marks_silent M next r low (kind_of M next) refl k.1 (omega (arith, mark.0)) (omega (arith, mark.1)))

  pub copied_by : StopsCopying r → IsCopied M s b
  copied_by (inl mark) =
      let k = Mark.stopped (flag t.goes_on.items next) (kind_of M next) next r is low (omega (arith, mark.0)) in
      (k.0, inr (marks_none M next r low (kind_of M next) refl k.1 (omega (arith, mark.1))))
  copied_by (inr mark) =
      let k = Mark.stopped (flag t.goes_on.items next) (kind_of M next) next r is low (omega (arith, mark.0)) in
      (k.0, inl (marks_echo M next r low (kind_of M next) refl k.1 (omega (arith, mark.0)) (omega (arith, mark.1))))

-- so many of the first bytes, and more of them

pub none_are : (P : ℕ → Type 0) (bytes : List ℕ) → FirstAre P bytes 0
none_are P bytes = record { inside = omega arith; each = λ i lt. absurd (omega (arith, lt)) }

pub one_more : (P : ℕ → Type 0) (bytes : List ℕ) (n : ℕ) → FirstAre P bytes n → n < length bytes → P (get_or bytes n 0) → FirstAre P bytes (n + 1)
one_more P bytes n before lt here = record {
  inside = omega (arith, lt);
  each = λ i less. elim (cases_lt i n) [
    | inl low ↦ before.each i low
    | inr high ↦ (let e : n ≡ i = omega (arith, less, high) in subst (λ k. P (get_or bytes k 0)) e here)
  ];
}

-- those of the first few are the first
pub of_front : (P : ℕ → Type 0) (bytes : List ℕ) (few n : ℕ) → few ≤ length bytes → FirstAre P (take few bytes) n → FirstAre P bytes n
of_front P bytes few n le are =
    let inside : n ≤ few = omega (arith, are.inside, length-take-le few bytes le) in
    record {
      inside = omega (arith, inside, le);
      each = λ i lt. subst P (get_or-take few bytes i 0 (omega (arith, lt, inside))) (are.each i lt);
    }

-- some of what is left follow them
pub and_then : (P : ℕ → Type 0) (bytes : List ℕ) (n m : ℕ) → FirstAre P bytes n → FirstAre P (take (length bytes - n) (drop n bytes)) m → FirstAre P bytes (n + m)
and_then P bytes n m before after =
    let left : FirstAre P (drop n bytes) m = subst (λ l. FirstAre P l m) (take_rest bytes n) after in
    record {
      inside = omega (arith, before.inside, left.inside, length-drop n bytes);
      each = λ i lt. elim (cases_lt i n) [
        | inl low ↦ before.each i low
        | inr high ↦ (
            let e : n + (i - n) ≡ i = omega (arith, high) in
            subst (λ k. P (get_or bytes k 0)) e (subst P (get_or-drop n bytes (i - n) 0) (left.each (i - n) (omega (arith, lt, high))))
            )
      ];
    }

-- bytes that are none of the three are dropped
pub others_dropped : (f : Flat) (s : ℕ) (bytes : List ℕ) (n : ℕ) (l : Leavers) → s < table_states f.tables → OthersDrop f.rows.items (256 * s) l → ((i : ℕ) → get_or bytes i 0 < 256) → AllOthers l bytes 0 n → FirstAre (IsDropped (table_machine f.tables) s) bytes n
others_dropped f s bytes n l known others small all = record {
  inside = all.inside;
  each = λ i lt.
      let b : ℕ = get_or bytes i 0 in
      dropped_by f.tables s b (get_or f.rows.items (256 * s + b) 0) known (small i) (f.targets s b known (small i)) (others b (small i) (all.others i (omega arith) lt));
}

-- where the matches of a condition start in the state, they are singles
pub singles_of : (Is : Machine → ℕ → ℕ → Type 0) (M : Machine) (condition first : ℕ) (bytes : List ℕ) (n : ℕ) → StartsIn M condition first → FirstAre (Is M first) bytes n → Singles Is M condition first bytes n
singles_of Is M condition first bytes n starts are = (are.inside, λ i lt. (are.each i lt, starts (nat_eq (get_or bytes i 0) 10)))

-- what is told of a condition, at its place in the column
pub told_at : (f : Flat) (condition i : ℕ) (m : Most) → condition < (table_machine f.tables).conditions → i ≡ condition → m ≡ get_or f.most.items i m → TellsSingles (table_machine f.tables) f.rows.items condition m
told_at f condition i m known at is =
    f.most_told condition m (slice_get_read f.most.items (length f.most.items) condition m refl (omega (arith, known, f.most_column)) (is ∙ ap (λ k. get_or f.most.items k m) at))

-- one element more of a column
pub told_more : {A : Type 0} (P : ℕ → A → Type 0) (xs : List A) (y : A) → ((c : ℕ) → ForSome (slice_get xs c) (P c)) → P (length xs) y → (c : ℕ) → ForSome (slice_get (xs ++ y ∷ []) c) (P c)
told_more P [] y all here zero m is = subst (P 0) (some_inj y m is) here
told_more P [] y all here (suc c) m is = absurd cc
told_more P (x ∷ xs) y all here zero m is = all zero m is
told_more P (x ∷ xs) y all here (suc c) m is = told_more (λ k. P (suc k)) xs y (λ k. all (suc k)) here c m is

-- in the quiet machine they are the same

copied_still : (M : Machine) (s : ℕ) → FirstDoes M s (Echo ∷ []) ⊎ (M.accepts s ≡ []) → FirstDoes (quiet M) s (Echo ∷ []) ⊎ (M.accepts s ≡ [])
copied_still M s (inl does) = inl (quiet_gist M s Gist.Echo does)
copied_still M s (inr none) = inr none

module _ (M : Machine) (condition first : ℕ) (bytes : List ℕ) (n : ℕ) where
  pub quiet_dropped : Singles IsDropped M condition first bytes n → Singles IsDropped (quiet M) condition first bytes n
  quiet_dropped all = (
    all.0,
    λ i lt. let one = all.1 i lt in ((one.0.0, quiet_gist M (M.next first (get_or bytes i 0)) Gist.Silent one.0.1), one.1),
  )

  pub quiet_copied : Singles IsCopied M condition first bytes n → Singles IsCopied (quiet M) condition first bytes n
  quiet_copied all = (
    all.0,
    λ i lt. let one = all.1 i lt in ((one.0.0, copied_still M (M.next first (get_or bytes i 0)) one.0.1), one.1),
  )
