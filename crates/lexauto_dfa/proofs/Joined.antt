-- One list of starts and one table say what the lists of an automaton say.
use mathlib.Core.Logic.{∥∥₁_map}
use Rattle.std.specs.Prelude.{◌≡◌, ℕ, zero, suc, ◌+◌, ◌*◌, ◌/◌, ◌%◌, ◌-◌, ◌<◌, ◌≤◌, Bool, true, false, cond, List, [], ◌∷◌, length, nat_lt, slice_index, slice_index_or}
use Rattle.std.proofs.Common.{rules, inl, inr, refl, ap, sym, subst, ◌∙◌, arith}
use Rattle.std.proofs.lemmas.Bool.{cases_lt, cond-true}
use Rattle.lex_semantics.specs.Text.{IsText, Among}
use Rattle.lexauto_dfa.specs.Invariant.{IsAutomaton}
use Rattle.lexauto_dfa.specs.Parts.{conditions, states, start, next, lists_in, accepts, goes_on, after, IsReachedIn, LeadsOn}
use Rattle.lexauto_dfa.specs.declared.dfa.Parts.{Parts}
use Rattle.lexauto_dfa.proofs.Machinery.{past_end, dead_after}
use Rattle.lexauto_dfa.specs.LeastTables as A
use Rattle.lexauto_dfa.specs.Quotients.{IsMinimised}
use Rattle.lexauto_dfa.specs.Least.{SameFuture, AcceptsAs, GoesOnAs, IsLeast, IsNumbered, AreSame, OneAutomaton}
use Rattle.lexauto_dfa.specs.Least.{by_turns}
use Rattle.lexauto_dfa.specs.Views.{automaton_of}
use Rattle.lexauto_dfa.proofs.Swapped.{same_or_not}
use Rattle.lexauto_dfa.proofs.GoesOn.{both_true}
use Rattle.lexauto_dfa.proofs.ByTurns.{turns_length, turn_even, turn_odd, turn_at, turns_same}
use Rattle.lexauto_dfa.proofs.Wholes.{is_whole}
use Rattle.lexauto_dfa.proofs.MachineLists.{calls_are}
use Rattle.lexauto_dfa.specs.Numbering.{InOrder}
use Rattle.lexauto_dfa.specs.declared.dfa.Dfa.{Dfa}
use Rattle.lexauto_dfa.proofs.OneLeast.{one_table, ext}

lt_test : (a b : ℕ) → a < b → nat_lt a b ≡ true
lt_test a b h = search rules

pub moved : (p : Parts) (s b : ℕ) → nat_lt b 256 ≡ true → next p s b ≡ A.next (automaton_of p) s b
moved p s b t = cond-true (nat_lt b 256) (slice_index p.next.items (s * 256 + b)) 0 t

moved_byte : (p : Parts) (s b : ℕ) → b < 256 → next p s b ≡ A.next (automaton_of p) s b
moved_byte p s b h = moved p s b (lt_test b 256 h)

after_same : (p : Parts) (s : ℕ) (w : List ℕ) → IsText w → A.after (automaton_of p) s w ≡ after p s w
after_same p s [] h = refl
after_same p s (b ∷ w) (low, h) = ap (λ (t : ℕ). A.after (automaton_of p) t w) (sym (moved_byte p s b low)) ∙ after_same p (next p s b) w h

told : (p : Parts) (s : ℕ) (w : List ℕ) → IsText w → A.accepts (automaton_of p) (A.after (automaton_of p) s w) ≡ accepts p (after p s w)
told p s w h = ap (λ (t : ℕ). accepts p t) (after_same p s w h)

pub future_of : (p : Parts) (s : ℕ) (q : Parts) (t : ℕ) → A.SameFuture (automaton_of p) s (automaton_of q) t → SameFuture p s q t
future_of p s q t f w h = sym (told p s w h) ∙ f w h ∙ told q t w h

future_in : (p : Parts) (s : ℕ) (q : Parts) (t : ℕ) → SameFuture p s q t → A.SameFuture (automaton_of p) s (automaton_of q) t
future_in p s q t f w h = told p s w h ∙ f w h ∙ sym (told q t w h)

-- starts
start_even : (p : Parts) (c : ℕ) → length p.line_starts.items ≡ length p.starts.items → slice_index (by_turns p.starts.items p.line_starts.items) (2 * c) ≡ start p c false
start_even p c lines = turn_even p.starts.items p.line_starts.items c lines

start_odd : (p : Parts) (c : ℕ) → length p.line_starts.items ≡ length p.starts.items → slice_index (by_turns p.starts.items p.line_starts.items) (2 * c + 1) ≡ start p c true
start_odd p c lines = turn_odd p.starts.items p.line_starts.items c lines

no_start : (p : Parts) (c : ℕ) (line_start : Bool) → IsAutomaton p → conditions p ≤ c → start p c line_start ≡ 0
no_start p c true a h = past_end p.line_starts.items c 0 (let l = a.lines in omega (arith, l, h))
no_start p c false a h = past_end p.starts.items c 0 h

start_low : (p : Parts) (c : ℕ) (line_start : Bool) → IsAutomaton p → start p c line_start < states p
start_low p c line_start a = elim (cases_lt c (conditions p)) [
  | inl h ↦ known line_start h
  | inr h ↦ (let none = no_start p c line_start a h in let some = a.some in omega (arith, none, some))
]
  where
    known : (line_start : Bool) → c < conditions p → start p c line_start < states p
    known true h = a.lines_known c (let l = a.lines in omega (arith, l, h))
    known false h = a.starts_known c h

pub reached_in : (p : Parts) → length p.line_starts.items ≡ length p.starts.items → (s : ℕ) → A.IsReached (automaton_of p) s → IsReachedIn p s
reached_in p lines s (i, w, low, text, e) =
    let (c, line_start, known, is) = turn_at p.starts.items p.line_starts.items i lines low in
    (c, line_start, w, known, text, ap (λ (t : ℕ). after p t w) (sym is) ∙ sym (after_same p (slice_index (by_turns p.starts.items p.line_starts.items) i) w text) ∙ e)

reached_out : (p : Parts) → length p.line_starts.items ≡ length p.starts.items → (s : ℕ) → IsReachedIn p s → A.IsReached (automaton_of p) s
reached_out p lines s (c, line_start, w, low, text, e) = from line_start (after_same p (start p c line_start) w text ∙ e)
  where
    len : length (by_turns p.starts.items p.line_starts.items) ≡ 2 * length p.starts.items
    len = turns_length p.starts.items p.line_starts.items lines

    from : (line_start : Bool) → A.after (automaton_of p) (start p c line_start) w ≡ s → A.IsReached (automaton_of p) s
    from true g = (2 * c + 1, w, omega (arith, len, low), text, ap (λ (t : ℕ). A.after (automaton_of p) t w) (start_odd p c lines) ∙ g)
    from false g = (2 * c, w, omega (arith, len, low), text, ap (λ (t : ℕ). A.after (automaton_of p) t w) (start_even p c lines) ∙ g)

-- the dead state
accepts_dead : (p : Parts) → IsAutomaton p → (w : List ℕ) → accepts p (after p 0 w) ≡ []
accepts_dead p a w = ap (λ (t : ℕ). accepts p t) (dead_after p a w) ∙ a.dead_accepts

pub dead_future : (p : Parts) → IsAutomaton p → A.IsDead (automaton_of p) 0
dead_future p a w text = told p 0 w text ∙ accepts_dead p a w

pub least_stays : (X : A.Automaton) → A.IsWhole X → A.IsLeast X → (b : ℕ) → b < 256 → A.next X 0 b ≡ 0
least_stays X whole least b h = elim (same_or_not (A.next X 0 b) 0) [
  | inl e ↦ e
  | inr n ↦ absurd (
      let low : A.next X 0 b < X.states = whole.targets_known (0 * 256 + b) (let r = whole.rows in let s = whole.some in omega (arith, r, s, h)) in
      let (w, text, differ) = least.apart (A.next X 0 b) 0 low whole.some n in
      differ (least.dead (b ∷ w) (h, text) ∙ sym (least.dead w text)))
]

-- least automata
pub is_least : (p : Parts) → IsAutomaton p → A.IsLeast (automaton_of p) → IsLeast p
is_least p a least = record {
  reached = λ s low other. reached_in p a.lines s (least.reached s low other);
  apart = λ s t h k n. (let (w, text, differ) = least.apart s t h k n in (w, text, λ e. differ (told p s w text ∙ e ∙ sym (told p t w text))));
}

is_least_table : (p : Parts) → IsAutomaton p → IsLeast p → A.IsLeast (automaton_of p)
is_least_table p a least = record {
  dead = dead_future p a;
  reached = λ s low other. reached_out p a.lines s (least.reached s low other);
  apart = λ s t h k n. (let (w, text, differ) = least.apart s t h k n in (w, text, λ e. differ (sym (told p s w text) ∙ e ∙ told p t w text)));
}

module _ (p q : Parts) (a : IsAutomaton p) (b : IsAutomaton q) where
  -- what is accepted after the starts
  pub accepts_as : conditions p ≡ conditions q → IsMinimised (automaton_of p) (automaton_of q) → AcceptsAs p q
  accepts_as count m c line_start = elim (cases_lt c (conditions p)) [
    | inl h ↦ known line_start h
    | inr h ↦ (λ w text. (
        let left : start p c line_start ≡ 0 = no_start p c line_start a h in
        let right : start q c line_start ≡ 0 = no_start q c line_start b (omega (arith, count, h)) in
        ap (λ (s : ℕ). accepts p (after p s w)) left ∙ accepts_dead p a w ∙ sym (accepts_dead q b w) ∙ ap (λ (s : ℕ). accepts q (after q s w)) (sym right)))
  ]
    where
      len : length (by_turns p.starts.items p.line_starts.items) ≡ 2 * length p.starts.items
      len = turns_length p.starts.items p.line_starts.items a.lines

      at : (i s t : ℕ) → i < length (by_turns p.starts.items p.line_starts.items) → slice_index (by_turns p.starts.items p.line_starts.items) i ≡ s
          → slice_index (by_turns q.starts.items q.line_starts.items) i ≡ t → SameFuture p s q t
      at i s t h e f = future_of p s q t (subst (λ (x : ℕ). A.SameFuture (automaton_of p) x (automaton_of q) t) e
          (subst (λ (y : ℕ). A.SameFuture (automaton_of p) (slice_index (by_turns p.starts.items p.line_starts.items) i) (automaton_of q) y) f (m.same i h)))

      known : (line_start : Bool) → c < conditions p → SameFuture p (start p c line_start) q (start q c line_start)
      known true h = at (2 * c + 1) (start p c true) (start q c true) (omega (arith, len, h)) (start_odd p c a.lines) (start_odd q c b.lines)
      known false h = at (2 * c) (start p c false) (start q c false) (omega (arith, len, h)) (start_even p c a.lines) (start_even q c b.lines)

  leads : (s t : ℕ) (r u : Parts) → SameFuture r s u t → LeadsOn r s → LeadsOn u t
  leads s t r u same (w, text, some, i, among) = (w, text, some, i, subst (λ (l : List ℕ). Among l i) (same w text) among)

  -- states with equal futures go on, or neither does
  pub same_flag : (s t : ℕ) → s < states p → t < states q → SameFuture p s q t → goes_on p s ≡ goes_on q t
  same_flag s t h k same = both_true (goes_on p s) (goes_on q t)
      (λ g. (b.goes_on t k).1 (∥∥₁_map ((a.goes_on s h).0 g) (leads s t p q same)))
      (λ g. (a.goes_on s h).1 (∥∥₁_map ((b.goes_on t k).0 g) (leads t s q p (λ w text. sym (same w text)))))

  next_low : (r : Parts) → IsAutomaton r → (s x : ℕ) → s < states r → x < 256 → next r s x < states r
  next_low r c s x h k = subst (λ (t : ℕ). t < states r) (sym (moved_byte r s x k)) (c.next_known (s * 256 + x) (let n = c.rows in omega (arith, n, h, k)))

  flags_after : (w : List ℕ) (s t : ℕ) → IsText w → s < states p → t < states q → SameFuture p s q t → goes_on p (after p s w) ≡ goes_on q (after q t w)
  flags_after [] s t text h k same = same_flag s t h k same
  flags_after (x ∷ w) s t (low, text) h k same =
      flags_after w (next p s x) (next q t x) text (next_low p a s x h low) (next_low q b t x k low) (λ v more. same (x ∷ v) (low, more))

  pub goes_on_as : AcceptsAs p q → GoesOnAs p q
  goes_on_as same c line_start w text = flags_after w (start p c line_start) (start q c line_start) text (start_low p c line_start a) (start_low q c line_start b) (same c line_start)

  -- there is one least automaton
  same_starts : conditions p ≡ conditions q → AcceptsAs p q → (i : ℕ) → i < length (by_turns p.starts.items p.line_starts.items)
      → A.SameFuture (automaton_of p) (slice_index (by_turns p.starts.items p.line_starts.items) i) (automaton_of q) (slice_index (by_turns q.starts.items q.line_starts.items) i)
  same_starts count same i h = even_or_odd (i % 2) refl
    where
      len : length (by_turns p.starts.items p.line_starts.items) ≡ 2 * length p.starts.items
      len = turns_length p.starts.items p.line_starts.items a.lines

      place : (i j : ℕ) (line_start : Bool) → i ≡ j → slice_index (by_turns p.starts.items p.line_starts.items) j ≡ start p (i / 2) line_start
          → slice_index (by_turns q.starts.items q.line_starts.items) j ≡ start q (i / 2) line_start
          → A.SameFuture (automaton_of p) (slice_index (by_turns p.starts.items p.line_starts.items) i) (automaton_of q) (slice_index (by_turns q.starts.items q.line_starts.items) i)
      place i j line_start e f g =
          let left : slice_index (by_turns p.starts.items p.line_starts.items) i ≡ start p (i / 2) line_start = ap (λ (k : ℕ). slice_index (by_turns p.starts.items p.line_starts.items) k) e ∙ f in
          let right : slice_index (by_turns q.starts.items q.line_starts.items) i ≡ start q (i / 2) line_start = ap (λ (k : ℕ). slice_index (by_turns q.starts.items q.line_starts.items) k) e ∙ g in
          subst (λ (x : ℕ). A.SameFuture (automaton_of p) x (automaton_of q) (slice_index (by_turns q.starts.items q.line_starts.items) i)) (sym left)
          (subst (λ (y : ℕ). A.SameFuture (automaton_of p) (start p (i / 2) line_start) (automaton_of q) y) (sym right) (future_in p (start p (i / 2) line_start) q (start q (i / 2) line_start) (same (i / 2) line_start)))

      even_or_odd : (r : ℕ) → i % 2 ≡ r → A.SameFuture (automaton_of p) (slice_index (by_turns p.starts.items p.line_starts.items) i) (automaton_of q) (slice_index (by_turns q.starts.items q.line_starts.items) i)
      even_or_odd zero e = place i (2 * (i / 2)) false (omega (arith, e)) (start_even p (i / 2) a.lines) (start_even q (i / 2) b.lines)
      even_or_odd (suc r) e = place i (2 * (i / 2) + 1) true (omega (arith, e)) (start_odd p (i / 2) a.lines) (start_odd q (i / 2) b.lines)

  pub one_parts : IsLeast p → IsLeast q → A.IsNumbered (automaton_of p) → A.IsNumbered (automaton_of q) → conditions p ≡ conditions q → AcceptsAs p q → AreSame p q
  one_parts lp lq np nq count same =
      let len : length (by_turns p.starts.items p.line_starts.items) ≡ length (by_turns q.starts.items q.line_starts.items) =
      turns_length p.starts.items p.line_starts.items a.lines ∙ ap (λ (n : ℕ). 2 * n) count ∙ sym (turns_length q.starts.items q.line_starts.items b.lines) in
      let (states_are, starts_are, table_is, lists_are) = one_table (automaton_of p) (automaton_of q) (is_whole p a) (is_whole q b) (is_least_table p a lp) (is_least_table q b lq) np nq len (same_starts count same) in
      let both = turns_same p.starts.items p.line_starts.items q.starts.items q.line_starts.items a.lines b.lines starts_are in
      record {
        starts = both.0;
        line_starts = both.1;
        next = table_is;
        accepts = lists_are;
        goes_on = ext false p.goes_on.items q.goes_on.items states_are (λ s h. same_flag s s h (omega (arith, states_are, h)) (alike table_is lists_are s));
      }
    where
      same_next : p.next.items ≡ q.next.items → (s x : ℕ) → next p s x ≡ next q s x
      same_next e s x = ap (λ (xs : List ℕ). cond (nat_lt x 256) (slice_index xs (s * 256 + x)) 0) e

      alike : p.next.items ≡ q.next.items → lists_in p ≡ lists_in q → (s : ℕ) → SameFuture p s q s
      alike e f s [] text = ap (λ (ls : List (List ℕ)). slice_index_or ls s []) f
      alike e f s (x ∷ w) (low, text) = alike e f (next p s x) w text ∙ ap (λ (t : ℕ). accepts q (after q t w)) (same_next e s x)

pub one_least : OneAutomaton
one_least d e ld le nd ne count same = one_parts d.parts e.parts d.lawful e.lawful ld le (numbered d nd) (numbered e ne) count same
  where
    numbered : (d : Dfa) → IsNumbered d.parts → A.IsNumbered (automaton_of d.parts)
    numbered d n = subst (λ l. InOrder 0 l (states d.parts - 1)) (calls_are d.parts d.lawful.lines d.lawful.rows) n
