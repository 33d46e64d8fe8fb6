-- Two least machines with canonical numbers that accept alike are the same.
use Rattle.std.proofs.Common.{◌≡◌, ℕ, zero, suc, ◌+◌, ◌*◌, ◌/◌, ◌%◌, ◌<◌, Bool, true, false, List, [], ◌∷◌, map, length, fold, refl, sym, ap, subst, ◌∙◌, arith}
use Rattle.std.specs.Prelude.{slice_index, slice_index_or}
use Rattle.std.specs.List.{range_with_len}
use Rattle.std.proofs.lemmas.List.FromFn.{get_or-map-range_with_len, length-map-range_with_len}
use Rattle.lex_semantics.specs.Text.{IsText}
use Rattle.lex_semantics.specs.Machine.{Machine, state_after}
use Rattle.lex_semantics.specs.MachineLaws.{StaysBelow}
use Rattle.lexauto_dfa.specs.LeastTables as A
use Rattle.lexauto_dfa.specs.Least.{by_turns}
use Rattle.lexauto_dfa.specs.LeastMachines.{IsLeastMachine, IsNumberedMachine}
use Rattle.lexauto_dfa.proofs.ByTurns.{turns_length, turn_even, turn_odd}
use Rattle.lexauto_dfa.proofs.MachineLists.{starts_in, rows_in, lists_of, starts_by_turns, rows_len, row_at}
use Rattle.lexauto_dfa.proofs.OneLeast.{one_table}

-- a machine of n states, with the dead one
pub record IsMachine (M : Machine) (n : ℕ) : Type 0 where
  pub below : StaysBelow M n
  pub dead_stays : (b : ℕ) → M.next 0 b ≡ 0
  pub dead_accepts : M.accepts 0 ≡ []

module _ (M : Machine) (n : ℕ) (is : IsMachine M n) where
  elsewhere : List ℕ
  elsewhere = map (λ c. M.start c false) (range_with_len 0 M.conditions)

  at_lines : List ℕ
  at_lines = map (λ c. M.start c true) (range_with_len 0 M.conditions)

  elsewhere_len : length elsewhere ≡ M.conditions
  unfolding elsewhere
  elsewhere_len = length-map-range_with_len (λ c. M.start c false) 0 M.conditions

  at_lines_len : length at_lines ≡ M.conditions
  unfolding at_lines
  at_lines_len = length-map-range_with_len (λ c. M.start c true) 0 M.conditions

  same_len : length at_lines ≡ length elsewhere
  same_len = at_lines_len ∙ sym elsewhere_len

  by_turns_are : starts_in M ≡ by_turns elsewhere at_lines
  unfolding elsewhere at_lines
  by_turns_are = starts_by_turns (λ c. M.start c false) (λ c. M.start c true) (range_with_len 0 M.conditions)

  pub starts_len : length (starts_in M) ≡ 2 * M.conditions
  starts_len = ap (λ (l : List ℕ). length l) by_turns_are ∙ turns_length elsewhere at_lines same_len ∙ ap (λ (k : ℕ). 2 * k) elsewhere_len

  even : (c : ℕ) → c < M.conditions → slice_index (starts_in M) (2 * c) ≡ M.start c false
  unfolding elsewhere
  even c h = ap (λ (l : List ℕ). slice_index l (2 * c)) by_turns_are ∙ turn_even elsewhere at_lines c same_len ∙ get_or-map-range_with_len (λ c. M.start c false) 0 M.conditions c c 0 h (omega arith)

  odd : (c : ℕ) → c < M.conditions → slice_index (starts_in M) (2 * c + 1) ≡ M.start c true
  unfolding at_lines
  odd c h = ap (λ (l : List ℕ). slice_index l (2 * c + 1)) by_turns_are ∙ turn_odd elsewhere at_lines c same_len ∙ get_or-map-range_with_len (λ c. M.start c true) 0 M.conditions c c 0 h (omega arith)

  -- the place of a start
  abbrev pub place : ℕ → Bool → ℕ
  place c false = 2 * c
  place c true = 2 * c + 1

  pub start_at : (c : ℕ) (line_start : Bool) → c < M.conditions → slice_index (starts_in M) (place c line_start) ≡ M.start c line_start
  start_at c false h = even c h
  start_at c true h = odd c h

  pub placed : (i : ℕ) → i < length (starts_in M) → (c : ℕ) × (line_start : Bool) × (c < M.conditions) × (i ≡ place c line_start)
  placed i h = by_rest (i % 2) refl
    where
      by_rest : (r : ℕ) → i % 2 ≡ r → (c : ℕ) × (line_start : Bool) × (c < M.conditions) × (i ≡ place c line_start)
      by_rest zero e = (i / 2, false, (let l = starts_len in omega (arith, h, l)), omega (arith, e))
      by_rest (suc zero) e = (i / 2, true, (let l = starts_len in omega (arith, h, l)), omega (arith, e))
      by_rest (suc (suc r)) e = absurd (omega (arith, e))

  pub next_at : (s b : ℕ) → s < n → b < 256 → A.next (lists_of M n) s b ≡ M.next s b
  next_at s b h k = row_at M.next 0 n s s b h k (omega arith)

  pub accepts_at : (s : ℕ) → s < n → A.accepts (lists_of M n) s ≡ M.accepts s
  accepts_at s h = get_or-map-range_with_len M.accepts 0 n s s [] h (omega arith)

  after_low : (s : ℕ) (w : List ℕ) → s < n → IsText w → fold M.next s w < n
  after_low s [] h text = h
  after_low s (b ∷ w) h (low, text) = after_low (M.next s b) w ((is.below).next s b h low) text

  after_same : (s : ℕ) (w : List ℕ) → s < n → IsText w → A.after (lists_of M n) s w ≡ fold M.next s w
  after_same s [] h text = refl
  after_same s (b ∷ w) h (low, text) =
      ap (λ (t : ℕ). A.after (lists_of M n) t w) (next_at s b h low) ∙ after_same (M.next s b) w ((is.below).next s b h low) text

  pub told : (s : ℕ) (w : List ℕ) → s < n → IsText w → A.accepts (lists_of M n) (A.after (lists_of M n) s w) ≡ M.accepts (fold M.next s w)
  told s w h text = ap (λ (t : ℕ). A.accepts (lists_of M n) t) (after_same s w h text) ∙ accepts_at (fold M.next s w) (after_low s w h text)

  pub whole : A.IsWhole (lists_of M n)
  whole = record {
    some = (is.below).dead;
    rows = rows_len M.next 0 n;
    all = length-map-range_with_len M.accepts 0 n;
    starts_known = λ i h. (let (c, line_start, low, e) = placed i h in
        subst (λ (s : ℕ). s < n) (sym (ap (λ (j : ℕ). slice_index (starts_in M) j) e ∙ start_at c line_start low)) ((is.below).start c line_start low));
    targets_known = λ i h. (
        let low : i < 256 * n = (let l = rows_len M.next 0 n in omega (arith, l, h)) in
        let byte : i % 256 < 256 = omega arith in
        let state : i / 256 < n = omega (arith, low) in
        let e : i ≡ i / 256 * 256 + i % 256 = omega arith in
        subst (λ (s : ℕ). s < n) (sym (ap (λ (j : ℕ). slice_index (rows_in M n) j) e ∙ next_at (i / 256) (i % 256) state byte)) ((is.below).next (i / 256) (i % 256) state byte));
  }

  dead_after : (w : List ℕ) → fold M.next 0 w ≡ 0
  dead_after [] = refl
  dead_after (b ∷ w) = ap (λ (s : ℕ). fold M.next s w) (is.dead_stays b) ∙ dead_after w

  pub least : IsLeastMachine M n → A.IsLeast (lists_of M n)
  least l = record {
    dead = λ w text. told 0 w (is.below).dead text ∙ ap M.accepts (dead_after w) ∙ is.dead_accepts;
    reached = λ s h other. (let (c, line_start, w, low, text, e) = l.reached s h other in (
      place c line_start,
      w,
      inside c line_start low,
      text,
      ap (λ (t : ℕ). A.after (lists_of M n) t w) (start_at c line_start low) ∙ after_same (M.start c line_start) w ((is.below).start c line_start low) text ∙ e,
    ));
    apart = λ s t h k other. (let (w, text, differ) = l.apart s t h k other in (w, text, λ e. differ (sym (told s w h text) ∙ e ∙ told t w k text)));
  }
    where
      inside : (c : ℕ) (line_start : Bool) → c < M.conditions → place c line_start < length (starts_in M)
      inside c false h = (let l = starts_len in omega (arith, h, l))
      inside c true h = (let l = starts_len in omega (arith, h, l))

-- the same states, starts, moves and rules
pub record AreSameMachines (M N : Machine) (m n : ℕ) : Type 0 where
  pub states : m ≡ n
  pub starts : (c : ℕ) (line_start : Bool) → c < M.conditions → M.start c line_start ≡ N.start c line_start
  pub moves : (s b : ℕ) → s < m → b < 256 → M.next s b ≡ N.next s b
  pub accepts : (s : ℕ) → s < m → M.accepts s ≡ N.accepts s

module _ (M N : Machine) (m n : ℕ) (a : IsMachine M m) (b : IsMachine N n) (count : M.conditions ≡ N.conditions) where
  pub one_machine : IsLeastMachine M m → IsLeastMachine N n → IsNumberedMachine M m → IsNumberedMachine N n
      → ((c : ℕ) (line_start : Bool) (w : List ℕ) → c < M.conditions → IsText w → M.accepts (state_after M c line_start w) ≡ N.accepts (state_after N c line_start w))
      → AreSameMachines M N m n
  one_machine least_m least_n order_m order_n alike = record {
    states = all.0;
    starts = λ c line_start h. sym (start_at M m a c line_start h) ∙ ap (λ (l : List ℕ). slice_index l (place M m a c line_start)) all.1
        ∙ ap (λ (i : ℕ). slice_index (starts_in N) i) (same_place c line_start) ∙ start_at N n b c line_start (omega (arith, h, count));
    moves = λ s x h k. sym (next_at M m a s x h k) ∙ ap (λ (l : List ℕ). slice_index l (s * 256 + x)) all.2
        ∙ next_at N n b s x (let e = all.0 in omega (arith, h, e)) k;
    accepts = λ s h. sym (accepts_at M m a s h) ∙ ap (λ (l : List (List ℕ)). slice_index_or l s []) all.3 ∙ accepts_at N n b s (let e = all.0 in omega (arith, h, e));
  }
    where
      same_place : (c : ℕ) (line_start : Bool) → place M m a c line_start ≡ place N n b c line_start
      same_place c false = refl
      same_place c true = refl

      same_starts : (i : ℕ) → i < length (starts_in M) → A.SameFuture (lists_of M m) (slice_index (starts_in M) i) (lists_of N n) (slice_index (starts_in N) i)
      same_starts i h w text =
          let (c, line_start, low, e) = placed M m a i h in
          let low' : c < N.conditions = omega (arith, low, count) in
          let left : slice_index (starts_in M) i ≡ M.start c line_start = ap (λ (j : ℕ). slice_index (starts_in M) j) e ∙ start_at M m a c line_start low in
          let right : slice_index (starts_in N) i ≡ N.start c line_start = ap (λ (j : ℕ). slice_index (starts_in N) j) (e ∙ same_place c line_start) ∙ start_at N n b c line_start low' in
          ap (λ (s : ℕ). A.accepts (lists_of M m) (A.after (lists_of M m) s w)) left ∙ told M m a (M.start c line_start) w ((a.below).start c line_start low) text
          ∙ alike c line_start w low text
          ∙ sym (ap (λ (s : ℕ). A.accepts (lists_of N n) (A.after (lists_of N n) s w)) right ∙ told N n b (N.start c line_start) w ((b.below).start c line_start low') text)

      all : (m ≡ n) × (starts_in M ≡ starts_in N) × (rows_in M m ≡ rows_in N n) × ((lists_of M m).lists ≡ (lists_of N n).lists)
      all = one_table (lists_of M m) (lists_of N n) (whole M m a) (whole N n b) (least M m a least_m) (least N n b least_n) order_m order_n
          (starts_len M m a ∙ ap (λ (k : ℕ). 2 * k) count ∙ sym (starts_len N n b)) same_starts
