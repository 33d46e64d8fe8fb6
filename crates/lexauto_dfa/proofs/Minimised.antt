-- The automaton of the classes is the least one.
use Rattle.std.proofs.Common.{◌≡◌, ◌≢◌, ℕ, zero, suc, ◌+◌, ◌-◌, ◌*◌, ◌/◌, ◌%◌, ◌<◌, ◌≤◌, ◌⊎◌, List, [], ◌∷◌, ◌++◌, length, get_or, refl, ap, sym, subst, ◌∙◌, inl, inr, arith}
use Rattle.std.proofs.lemmas.List.{get_or_append_left, get_or-append-add}
use Rattle.std.specs.Prelude.{slice_index}
use Rattle.lexauto_dfa.specs.LeastTables.{Automaton, next, accepts, after, IsText, IsWhole, SameFuture, AreToldApart, IsDead, IsReached}
use Rattle.lexauto_dfa.specs.Numbering.{InOrder}
use Rattle.lexauto_dfa.specs.Numbers.{IsNumberOf}
use Rattle.lexauto_dfa.specs.Quotients.{AreClasses, IsQuotient, IsMinimised}
use Rattle.lexauto_dfa.proofs.Swapped.{same_or_not}

bytes_snoc : (w : List ℕ) (b : ℕ) → IsText w → b < 256 → IsText (w ++ b ∷ [])
bytes_snoc [] b a h = (h, tt)
bytes_snoc (c ∷ w) b (l, a) h = (l, bytes_snoc w b a h)

after_snoc : (A : Automaton) (s : ℕ) (w : List ℕ) (b : ℕ) → after A s (w ++ b ∷ []) ≡ next A (after A s w) b
after_snoc A s [] b = refl
after_snoc A s (c ∷ w) b = after_snoc A (next A s c) w b

module _ (A : Automaton) (whole : IsWhole A) (classes : List ℕ) (cl : AreClasses A classes) where
  -- where a state goes
  next_low : (x b : ℕ) → x < A.states → b < 256 → next A x b < A.states
  next_low x b h l = whole.targets_known (x * 256 + b) (let r = whole.rows in omega (arith, r, h, l))

  -- states of one class go to one class
  stable : (x y b : ℕ) → x < A.states → y < A.states → b < 256 → slice_index classes x ≡ slice_index classes y → slice_index classes (next A x b) ≡ slice_index classes (next A y b)
  stable x y b h k l e = elim (same_or_not (slice_index classes (next A x b)) (slice_index classes (next A y b))) [
    | inl q ↦ q
    | inr n ↦ absurd (let (w, bytes, differ) = cl.apart (next A x b) (next A y b) (next_low x b h l) (next_low y b k l) n in differ (cl.same x y h k e (b ∷ w) (l, bytes)))
  ]

  module _ (dead : IsDead A 0) (members : List ℕ) (B : Automaton) (q : IsQuotient A classes members B) where
    -- k is the number of the class of x
    pub record Stands (k x : ℕ) : Type 0 where
      pub low : k < length members
      pub state : x < A.states
      pub same : slice_index classes (slice_index members k) ≡ slice_index classes x

    of_number : (k x : ℕ) → x < A.states → IsNumberOf classes members k x → Stands k x
    of_number k x h n = record { low = n.low; state = h; same = n.same }

    goes : (k x b : ℕ) → b < 256 → Stands k x → Stands (next B k b) (next A x b)
    goes k x b l s =
        let j = k * 256 + b in
        let low = s.low in
        let place : j < length B.table = let r = q.rows_len in omega (arith, r, low, l) in
        let row : j / 256 ≡ k = omega (arith, l) in
        let byte : j % 256 ≡ b = omega (arith, l) in
        let there = (q.rows j place).1 in
        let target : slice_index A.table (slice_index members (j / 256) * 256 + j % 256) ≡ next A (slice_index members k) b =
        ap (λ (i : ℕ). slice_index A.table (slice_index members i * 256 + j % 256)) row ∙ ap (λ (i : ℕ). slice_index A.table (slice_index members k * 256 + i)) byte in
        record {
          low = there.low;
          state = next_low x b s.state l;
          same = there.same ∙ ap (λ (y : ℕ). slice_index classes y) target ∙ stable (slice_index members k) x b (q.known k low) s.state l s.same;
        }

    pub goes_by : (w : List ℕ) (k x : ℕ) → IsText w → Stands k x → Stands (after B k w) (after A x w)
    goes_by [] k x a s = s
    goes_by (b ∷ w) k x (l, a) s = goes_by w (next B k b) (next A x b) a (goes k x b l s)

    accepts_as : (k x : ℕ) → Stands k x → accepts B k ≡ accepts A x
    accepts_as k x s = q.lists k s.low ∙ cl.same (slice_index members k) x (q.known k s.low) s.state s.same [] tt

    pub future : (k x : ℕ) → Stands k x → SameFuture B k A x
    future k x s w a = accepts_as (after B k w) (after A x w) (goes_by w k x a s)

    pub own : (k : ℕ) → k < length members → Stands k (slice_index members k)
    own k h = record { low = h; state = q.known k h; same = refl }

    zero_stands : Stands 0 0
    zero_stands = record { low = q.called.some; state = whole.some; same = ap (λ (y : ℕ). slice_index classes y) q.zero_is }

    pub start_stands : (i : ℕ) → i < length A.starts → Stands (slice_index B.starts i) (slice_index A.starts i)
    start_stands i h = of_number (slice_index B.starts i) (slice_index A.starts i) (whole.starts_known i h) (q.starts i (let l = q.starts_len in omega (arith, l, h)))

    -- the dead state goes to itself
    dead_stays : (b : ℕ) → b < 256 → next B 0 b ≡ 0
    dead_stays b l =
        let s = goes 0 0 b l zero_stands in
        let same : slice_index classes (next A 0 b) ≡ slice_index classes 0 = elim (same_or_not (slice_index classes (next A 0 b)) (slice_index classes 0)) [
          | inl e ↦ e
          | inr n ↦ absurd (let (w, bytes, differ) = cl.apart (next A 0 b) 0 (next_low 0 b whole.some l) whole.some n in differ (dead (b ∷ w) (l, bytes) ∙ sym (dead w bytes)))
        ] in
        q.one (next B 0 b) 0 s.low q.called.some (s.same ∙ same ∙ ap (λ (y : ℕ). slice_index classes y) (sym q.zero_is))

    reached_below : (m s : ℕ) → s < m → s < length members → s ≢ 0 → IsReached B s
    reached_below zero s h low n = absurd (omega (arith, h))
    reached_below (suc m) s h low n =
        let (i, place, is, by) = q.called.called s (omega (arith, n)) low in
        elim (in_starts i (length B.starts)) [
          | inl e ↦ (i, [], e, tt, sym (get_or_append_left B.starts B.table 0 i e) ∙ is)
          | inr e ↦ elim by [
            | inl f ↦ absurd (omega (arith, e, f))
            | inr f ↦ (
                let j = i - length B.starts in
                let at : slice_index B.table j ≡ s = sym (get_or-append-add B.starts B.table j 0) ∙ ap (λ (a : ℕ). get_or (B.starts ++ B.table) a 0) (let g : length B.starts + j ≡ i = omega (arith, e) in g) ∙ is in
                let row : next B (j / 256) (j % 256) ≡ s = ap (λ (a : ℕ). slice_index B.table a) (let g : j / 256 * 256 + j % 256 ≡ j = omega arith in g) ∙ at in
                let byte : j % 256 < 256 = omega arith in
                elim (same_or_not (j / 256) 0) [
                  | inl z ↦ absurd (n (sym row ∙ ap (λ (a : ℕ). next B a (j % 256)) z ∙ dead_stays (j % 256) byte))
                  | inr z ↦ (
                      let (k, w, start, bytes, there) = reached_below m (j / 256) (omega (arith, f, h)) (omega (arith, f, low)) z in (
                        k,
                        w ++ j % 256 ∷ [],
                        start,
                        bytes_snoc w (j % 256) bytes byte,
                        after_snoc B (slice_index B.starts k) w (j % 256) ∙ ap (λ (a : ℕ). next B a (j % 256)) there ∙ row,
                      ))
                ])
          ]
        ]
      where
        in_starts : (i n : ℕ) → (i < n) ⊎ (n ≤ i)
        in_starts i n = grind arith

    told_apart : (s t : ℕ) → s < length members → t < length members → s ≢ t → AreToldApart B s t
    told_apart s t h k n =
        let (w, bytes, differ) = cl.apart (slice_index members s) (slice_index members t) (q.known s h) (q.known t k) (λ e. n (q.one s t h k e)) in
        (w, bytes, λ e. differ (sym (future s (slice_index members s) (own s h) w bytes) ∙ e ∙ future t (slice_index members t) (own t k) w bytes))

    pub minimised : IsMinimised A B
    minimised = record {
      whole = record {
        some = (let c = q.count in let s = q.called.some in omega (arith, c, s));
        rows = (let c = q.count in let r = q.rows_len in omega (arith, c, r));
        all = q.lists_len ∙ sym q.count;
        starts_known = λ i h. (let c = q.count in let l = (q.starts i h).low in omega (arith, c, l));
        targets_known = λ j h. (let c = q.count in let l = (q.rows j h).1.low in omega (arith, c, l));
      };
      least = record {
        dead = λ w a. future 0 0 zero_stands w a ∙ dead w a;
        reached = λ s h n. (let c = q.count in reached_below (suc s) s (omega arith) (omega (arith, c, h)) n);
        apart = λ s t h k n. (let c = q.count in told_apart s t (omega (arith, c, h)) (omega (arith, c, k)) n);
      };
      numbered = subst (λ (m : ℕ). InOrder 0 (B.starts ++ B.table) (m - 1)) (sym q.count) q.called.order;
      starts = q.starts_len;
      same = λ i h w a. sym (future (slice_index B.starts i) (slice_index A.starts i) (start_stands i h) w a);
    }
