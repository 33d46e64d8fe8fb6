-- Walks over bytes that are held, and lead to no match.
use mathlib.Core.Logic.{∥∥₁_elim}
use Rattle.std.proofs.Common.{◌≡◌, ℕ, zero, suc, ◌+◌, ◌-◌, ◌≤◌, ◌<◌, Bool, true, false, List, [], ◌∷◌, ◌++◌, length, take, drop, get_or, ◌⊎◌, inl, inr, Option, Some, None, refl, sym, ◌∙◌, ap, subst, arith, take-add, take_all}
use Rattle.std.specs.Prelude.{filter_map, slice_range}
use Rattle.std.proofs.lemmas.List.{append-nil, length-append, length-drop, length-take-le, take-append-le, take-take, drop-append-le, drop-drop, nil_from_length}
use Rattle.std.proofs.Math.Seq.{drop-cons}
use Rattle.std.proofs.lemmas.Bool.{cases_lt}
use Rattle.lex_semantics.specs.Text.{Among, IsText}
use Rattle.lex_semantics.specs.Machine.{Machine, Keeps, walk}
use Rattle.lex_semantics.specs.MachineLaws.{MachineLaws, StaysBelow, LeadsToAccept}
use Rattle.lex_semantics.specs.PlainMachine.{kept_by, match_of}
use Rattle.lex_machine.specs.Quiets.{NoneFits}
use Rattle.lex_semantics.proofs.MachineRun.{match_sound}
use Rattle.lexscan_matching.proofs.Descending.{no_match}
use Rattle.lex_semantics.specs.Trail.{falling}
use Rattle.lexscan_matching.specs.declared.back.Ahead.{Ahead}
use Rattle.lexscan_matching.specs.declared.back.Passed.{Passed}
use Rattle.lexscan_matching.specs.declared.back.Settled.{Settled}
use Rattle.lexscan_matching.specs.declared.back.Walked.{Walked}
use Rattle.lexscan_window.specs.declared.memo.Mark.{Mark}
use Rattle.lexscan_window.specs.declared.state.Reading.{Reading}
use Rattle.lexscan_window.specs.declared.state.TextPlace.{TextPlace}
use Rattle.lexscan_window.specs.Reads.{Took}
use Rattle.lexscan_matching.specs.Looks.{SoFar, Looked, IsLiveAfter}
use Rattle.lexscan_matching.specs.Picks.{path_of, state_at}
use Rattle.lexscan_window.specs.Memos.{Barren, GoesOver, TellsWalk, IsTrueMark, AreTrue, silent, unmarked}
use Rattle.lexscan_matching.specs.Backs.{IsOnTheWay, WalkedOver, settled_of, IsSettled, LooksAhead}
use Rattle.lex_semantics.proofs.MachineLaws.{walk-append}
use Rattle.lex_semantics.proofs.States.{states_below}
use Rattle.lex_semantics.proofs.Texts.{is_text_take}
use Rattle.lexscan_matching.proofs.Growing.{clash, step_more}
use Rattle.lexscan_matching.proofs.Picking.{state_more, falling_more}

-- no byte is asked for where the machine does not go on
pub barren_stopped : (M : Machine) (e : Bool) (s : ℕ) (w : List ℕ) → M.goes_on s ≡ false → Barren M e s w
barren_stopped M e s [] h = λ g. absurd (clash (M.goes_on s) g h)
barren_stopped M e s (b ∷ w) h = λ g. absurd (clash (M.goes_on s) g h)

-- over no bytes, at the end
pub barren_ended : (M : Machine) (e : Bool) (s : ℕ) (w : List ℕ) → w ≡ [] → e ≡ true → Barren M e s w
barren_ended M e s [] none h = λ g. h
barren_ended M e s (b ∷ w) none h = absurd cc

-- the dead state
walk_dead : (M : Machine) → MachineLaws M → (u : List ℕ) → walk M 0 u ≡ 0
walk_dead M laws [] = refl
walk_dead M laws (b ∷ u) = ap (λ s. walk M s u) (laws.dead_stays b) ∙ walk_dead M laws u

dead_leads : (M : Machine) → MachineLaws M → LeadsToAccept M 0 → ⊥
dead_leads M laws (u, text, some, i, a) = subst (λ l. Among l i) (ap M.accepts (walk_dead M laws u) ∙ laws.dead_accepts) a

pub barren_dead : (M : Machine) → MachineLaws M → (e : Bool) (w : List ℕ) → Barren M e 0 w
barren_dead M laws e w = by_case (M.goes_on 0) refl
  where
    by_case : (b : Bool) → M.goes_on 0 ≡ b → Barren M e 0 w
    by_case false h = barren_stopped M e 0 w h
    by_case true h = absurd (∥∥₁_elim ((laws.goes_on 0).0 h) (λ x. absurd x) (dead_leads M laws))

-- a mark of a walk that is barren
pub tells_silent : (M : Machine) (e : Bool) (place s : ℕ) (w : List ℕ) → Barren M e s w → TellsWalk M e (silent place s) w
tells_silent M e place s w h = (omega arith, (refl, λ some. absurd (omega (arith, some)), λ i some lt. absurd (omega (arith, some, lt))), h)

pub true_unmarked : (M : Machine) → MachineLaws M → (r : Reading) → IsTrueMark M r unmarked
true_unmarked M laws r = (omega arith, λ i e. tells_silent M r.at_end 0 0 (drop i r.window.bytes) (barren_dead M laws r.at_end (drop i r.window.bytes)))

-- a window that grows
pub barren_grown : (M : Machine) (a b : Bool) (s : ℕ) (w more : List ℕ) → (a ≡ true → more ≡ []) → (a ≡ true → b ≡ true) → Barren M a s w → Barren M b s (w ++ more)
barren_grown M a b s [] [] none stays h = λ g. stays (h g)
barren_grown M a b s [] (x ∷ more) none stays h = λ g. (let e : x ∷ more ≡ [] = none (h g) in absurd cc)
barren_grown M a b s (x ∷ w) more none stays h = λ g. ((h g).0, barren_grown M a b (M.next s x) w more none stays (h g).1)

pub tells_grown : (M : Machine) (a b : Bool) (m : Mark) (w more : List ℕ) → (a ≡ true → more ≡ []) → (a ≡ true → b ≡ true) → TellsWalk M a m w → TellsWalk M b m (w ++ more)
tells_grown M a b m w more none stays h = (
  omega (arith, h.0, length-append w more),
  subst (λ u. GoesOver M m.state u m.last m.before) (sym (take-append-le m.count w more h.0)) h.1,
  subst (λ u. Barren M b m.last u) (sym (drop-append-le m.count w more h.0)) (barren_grown M a b m.last (drop m.count w) more none stays h.2),
)

pub true_grown : {S : Type 0} (M : Machine) (gave : S → List ℕ → S → Type 0) (s t : S) (old new : Reading) (m : Mark) → Took gave s t old new → IsTrueMark M old m → IsTrueMark M new m
true_grown M gave s t old new m k h = (omega (arith, h.0, k.taken), λ i e. over i (omega (arith, e, size, k.taken)))
  where
    size : length new.window.bytes ≡ length old.window.bytes + length k.got
    size = ap length k.held ∙ length-append old.window.bytes k.got

    over : (i : ℕ) → m.place + length old.window.bytes ≡ old.taken + i → TellsWalk M new.at_end m (drop i new.window.bytes)
    over i e =
        let inside : i ≤ length old.window.bytes = omega (arith, e, h.0) in
        subst (TellsWalk M new.at_end m) (sym (ap (drop i) k.held ∙ drop-append-le i old.window.bytes k.got inside))
        (tells_grown M old.at_end new.at_end m (drop i old.window.bytes) k.got k.nothing k.end_stays (h.1 i e))

-- a window from whose front bytes are dropped
pub true_dropped : (M : Machine) (old new : Reading) (n : ℕ) (m : Mark) → n ≤ length old.window.bytes → new.window.bytes ≡ drop n old.window.bytes → new.taken ≡ old.taken → new.at_end ≡ old.at_end → IsTrueMark M old m →
    IsTrueMark M new m
true_dropped M old new n m le held taken at_end h = (omega (arith, h.0, taken), λ i e. over i (omega (arith, e, size, taken, le)))
  where
    size : length new.window.bytes ≡ length old.window.bytes - n
    size = ap length held ∙ length-drop n old.window.bytes

    over : (i : ℕ) → m.place + length old.window.bytes ≡ old.taken + (n + i) → TellsWalk M new.at_end m (drop i new.window.bytes)
    over i e =
        subst (λ w. TellsWalk M new.at_end m w) (sym (ap (drop i) held ∙ drop-drop i n old.window.bytes))
        (subst (λ b. TellsWalk M b m (drop (n + i) old.window.bytes)) (sym at_end) (h.1 (n + i) e))

-- several turns in one go keep marks true: the window grows by the bytes asked for, and those that are done with are dropped
pub true_further : (M : Machine) (old new : Reading) (bytes more : List ℕ) (got n : ℕ) (ms : List Mark) → bytes ≡ old.window.bytes → length more ≡ got → n ≤ length bytes + got → new.window.bytes ≡ drop n (bytes ++ more) → new.taken ≡ old.taken + got →
    old.at_end ≡ false → AreTrue M old ms → AreTrue M new ms
true_further M old new bytes more got n ms same many le held taken unended h x a = (omega (arith, (h x a).0, taken), λ i e. over i (omega (arith, e, size, taken, sized, le)) (h x a))
  where
    sized : length bytes ≡ length old.window.bytes
    sized = ap length same

    size : length new.window.bytes ≡ length old.window.bytes + got - n
    size = ap length held ∙ length-drop n (bytes ++ more) ∙ ap (λ k. k - n) (length-append bytes more ∙ ap (λ k. k + length more) sized ∙ ap (λ k. length old.window.bytes + k) many)

    not_ended : old.at_end ≡ true → ⊥
    not_ended e = clash old.at_end e unended

    over : (i : ℕ) → x.place + length old.window.bytes ≡ old.taken + (n + i) → IsTrueMark M old x → TellsWalk M new.at_end x (drop i new.window.bytes)
    over i e t =
        let inside : n + i ≤ length old.window.bytes = omega (arith, e, t.0) in
        let whole : drop i new.window.bytes ≡ drop (n + i) old.window.bytes ++ more = ap (drop i) held ∙ drop-drop i n (bytes ++ more) ∙ ap (λ w. drop (n + i) (w ++ more)) same ∙ drop-append-le (n + i) old.window.bytes more inside in
        subst (TellsWalk M new.at_end x) (sym whole) (tells_grown M old.at_end new.at_end x (drop (n + i) old.window.bytes) more (λ e. absurd (not_ended e)) (λ e. absurd (not_ended e)) (t.1 (n + i) e))

-- a text was shown after the bytes held, and a part of it was asked for
pub true_burst : (M : Machine) (old new : Reading) (text bytes ahead given : List ℕ) (h shown asked done : ℕ) (ms : List Mark) → h ≡ length old.window.bytes → bytes ≡ old.window.bytes → ahead ≡ take shown given → shown ≤ length given → text ≡ bytes ++ take shown ahead → h ≤ asked →
    asked ≤ length text → done ≤ asked → new.window.bytes ≡ drop done (bytes ++ take (asked - h) ahead) → new.taken ≡ old.taken + (asked - h) → old.at_end ≡ false → AreTrue M old ms → AreTrue M new ms
true_burst M old new text bytes ahead given h shown asked done ms size same ahead_is few text_is low high order held taken unended t =
    let all : length ahead ≡ shown = ap length ahead_is ∙ length-take-le shown given few in
    let front : length (take shown ahead) ≡ shown = length-take-le shown ahead (omega (arith, all)) in
    let whole : length text ≡ length bytes + shown = ap length text_is ∙ length-append bytes (take shown ahead) ∙ ap (λ k. length bytes + k) front in
    let there : length bytes ≡ h = ap length same ∙ sym size in
    true_further M old new bytes (take (asked - h) ahead) (asked - h) done ms same (length-take-le (asked - h) ahead (omega (arith, whole, there, all, high))) (omega (arith, order, low, there)) held taken unended t

-- a walk that is known from a place on, back to the last state that accepts
module _ (M : Machine) (p : TextPlace) (w : List ℕ) (e : Bool) where
  abbrev BarrenFrom : ℕ → Type 0
  BarrenFrom k = Barren M e (state_at M p w k) (drop (p.at + k) w)

  split : (k : ℕ) → p.at + k < length w → drop (p.at + k) w ≡ get_or w (p.at + k) 0 ∷ drop (p.at + (k + 1)) w
  split k lt =
      let one : suc (p.at + k) ≡ p.at + (k + 1) = omega arith in
      drop-cons w (p.at + k) 0 lt ∙ ap (λ j. get_or w (p.at + k) 0 ∷ drop j w) one

  barren_back : (k : ℕ) → p.at + k < length w → NoneFits M (state_at M p w (k + 1)) → BarrenFrom (k + 1) → BarrenFrom k
  barren_back k lt none h = subst (Barren M e (state_at M p w k)) (sym (split k lt)) (λ g. (
    subst (NoneFits M) (sym (state_more M p w k lt)) none,
    subst (λ s. Barren M e s (drop (p.at + (k + 1)) w)) (sym (state_more M p w k lt)) h,
  ))

  pub barren_before : (m k : ℕ) → p.at + (k + m) ≤ length w → ((j : ℕ) → k < j → j ≤ k + m → NoneFits M (state_at M p w j)) → BarrenFrom (k + m) → BarrenFrom k
  barren_before zero k le none h = subst BarrenFrom (omega arith) h
  barren_before (suc m) k le none h =
      let same : k + suc m ≡ k + 1 + m = omega arith in
      barren_back k (omega (arith, le)) (none (k + 1) (omega arith) (omega arith))
      (barren_before m (k + 1) (omega (arith, le)) (λ j lt to. none j (omega (arith, lt)) (omega (arith, to))) (subst BarrenFrom same h))

-- what was seen so far, after one byte more
so_far_more : (M : Machine) (p : TextPlace) (w : List ℕ) (len state s : ℕ) → SoFar M p (drop p.at w) len state (path_of M p w len) → (1 ≤ len → M.goes_on state ≡ true) → p.at + len < length w → s ≡ M.next state (get_or w (p.at + len) 0) →
    SoFar M p (drop p.at w) (len + 1) s (path_of M p w (len + 1))
so_far_more M p w len state s h live lt stepped = subst (λ t. SoFar M p (drop p.at w) (len + 1) s t) next.path_is next
  where
    next : SoFar M p (drop p.at w) (len + 1) s (path_of M p w len ++ s ∷ [])
    next = step_more M p w w [] len state s (path_of M p w len) (path_of M p w len ++ s ∷ []) (omega (arith, lt)) (sym (append-nil w)) lt h live stepped refl

-- a walk over the first byte
pub walked_first : (M : Machine) (states : ℕ) (p : TextPlace) (r : Reading) (first s : ℕ) → p.at < length r.window.bytes → first ≡ M.start p.condition p.line_start → first < states → s ≡ M.next first (get_or r.window.bytes p.at 0) → s < states →
    WalkedOver M states p r (record { len = 1; state = s; before = first; keep = 1; kept = s; kept_before = first })
walked_first M states p r first s lt is first_known stepped known = record {
  inside = omega (arith, lt);
  so_far = so_far;
  before_is = is;
  known = known;
  known_before = first_known;
  some = omega arith;
  order = omega arith;
  kept_is = so_far.state_is;
  kept_known = known;
  kept_before_is = is;
  kept_before_known = first_known;
  none = λ k lo hi. absurd (omega (arith, lo, hi));
}
  where
    so_far : SoFar M p (drop p.at r.window.bytes) 1 s (path_of M p r.window.bytes 1)
    so_far = so_far_more M p r.window.bytes 0 first s (record { inside = omega arith; state_is = is; asked = λ i some lt. absurd (omega (arith, some, lt)); path_is = refl }) (λ some. absurd (omega (arith, some))) (omega (arith, lt))
        (stepped ∙ ap (λ i. M.next first (get_or r.window.bytes i 0)) (omega arith))

-- one byte more, after which no rule fits
pub walked_more : (M : Machine) (states : ℕ) (p : TextPlace) (r : Reading) (a : Walked) (s : ℕ) → WalkedOver M states p r a → M.goes_on a.state ≡ true → p.at + a.len < length r.window.bytes → s ≡ M.next a.state (get_or r.window.bytes (p.at + a.len) 0) → s < states → NoneFits M s →
    WalkedOver M states p r (record { len = a.len + 1; state = s; before = a.state; keep = a.keep; kept = a.kept; kept_before = a.kept_before })
walked_more M states p r a s h live lt stepped known quiet = record {
  inside = omega (arith, lt);
  so_far = so_far;
  before_is = h.so_far.state_is ∙ ap (λ k. state_at M p r.window.bytes k) (omega arith);
  known = known;
  known_before = h.known;
  some = h.some;
  order = omega (arith, h.order);
  kept_is = h.kept_is;
  kept_known = h.kept_known;
  kept_before_is = h.kept_before_is;
  kept_before_known = h.kept_before_known;
  none = λ k lo hi. elim (cases_lt a.len k) [
    | inl more ↦ subst (λ n. NoneFits M (state_at M p r.window.bytes n)) (omega (arith, more, hi)) (subst (NoneFits M) so_far.state_is quiet)
    | inr less ↦ h.none k lo less
  ];
}
  where
    so_far : SoFar M p (drop p.at r.window.bytes) (a.len + 1) s (path_of M p r.window.bytes (a.len + 1))
    so_far = so_far_more M p r.window.bytes a.len a.state s h.so_far (λ some. live) lt stepped

-- one byte more, after which a rule may fit
pub walked_fit : (M : Machine) (states : ℕ) (p : TextPlace) (r : Reading) (a : Walked) (s : ℕ) → WalkedOver M states p r a → M.goes_on a.state ≡ true → p.at + a.len < length r.window.bytes → s ≡ M.next a.state (get_or r.window.bytes (p.at + a.len) 0) → s < states →
    WalkedOver M states p r (record { len = a.len + 1; state = s; before = a.state; keep = a.len + 1; kept = s; kept_before = a.state })
walked_fit M states p r a s h live lt stepped known = record {
  inside = omega (arith, lt);
  so_far = so_far;
  before_is = before_is;
  known = known;
  known_before = h.known;
  some = omega arith;
  order = omega arith;
  kept_is = so_far.state_is;
  kept_known = known;
  kept_before_is = before_is;
  kept_before_known = h.known;
  none = λ k lo hi. absurd (omega (arith, lo, hi));
}
  where
    so_far : SoFar M p (drop p.at r.window.bytes) (a.len + 1) s (path_of M p r.window.bytes (a.len + 1))
    so_far = so_far_more M p r.window.bytes a.len a.state s h.so_far (λ some. live) lt stepped

    before_is : a.state ≡ state_at M p r.window.bytes (a.len + 1 - 1)
    before_is = h.so_far.state_is ∙ ap (λ k. state_at M p r.window.bytes k) (omega arith)

-- the front of what was seen so far
so_far_front : (M : Machine) (p : TextPlace) (w : List ℕ) (len keep state : ℕ) → keep ≤ len → state ≡ state_at M p w keep → (s : ℕ) → SoFar M p (drop p.at w) len s (path_of M p w len) → SoFar M p (drop p.at w) keep state (path_of M p w keep)
so_far_front M p w len keep state le is s h = record {
  inside = (let i = h.inside in omega (arith, i, le));
  state_is = is;
  asked = λ i some lt. h.asked i some (omega (arith, lt, le));
  path_is = refl;
}

-- it shows where the longest text ends
pub settled_at : (M : Machine) (states : ℕ) (p : TextPlace) (r : Reading) (a : Walked) → WalkedOver M states p r a → Barren M r.at_end a.state (drop (p.at + a.len) r.window.bytes) →
    IsSettled M states p r (settled_of a)
settled_at M states p r a h barren = record {
  some = h.some;
  order = h.order;
  inside = h.inside;
  known = h.kept_known;
  before_is = h.kept_before_is;
  known_before = h.kept_before_known;
  so_far = so_far_front M p r.window.bytes a.len a.keep a.kept h.order h.kept_is a.state h.so_far;
  barren = λ k lo hi. barren_before M p r.window.bytes r.at_end (a.len - k) k (omega (arith, h.inside, hi)) (λ j up to. h.none j (omega (arith, lo, up)) (omega (arith, to, hi)))
      (subst (λ n. Barren M r.at_end (state_at M p r.window.bytes n) (drop (p.at + n) r.window.bytes)) (omega (arith, hi)) (subst (λ q. Barren M r.at_end q (drop (p.at + a.len) r.window.bytes)) h.so_far.state_is barren));
}

-- a place that the walk has come to
pub comes_by : (M : Machine) (states : ℕ) (p : TextPlace) (r : Reading) (a : Walked) → WalkedOver M states p r a → IsOnTheWay M states p r (record { len = a.len; state = a.state })
comes_by M states p r a h = record { inside = h.inside; state_is = h.so_far.state_is; known = h.known }

-- what a match sees after a place from which the walk is barren
pub record Further (M : Machine) (p : TextPlace) (r : Reading) (k : ℕ) : Type 0 where
  pub reach : ℕ
  pub looked : Looked M p r r (path_of M p r.window.bytes reach)
  pub same : falling M 0 (path_of M p r.window.bytes k) ≡ falling M 0 (path_of M p r.window.bytes reach)

more_left : (w : List ℕ) (n x : ℕ) (rest : List ℕ) → drop n w ≡ x ∷ rest → n < length w
more_left w n x rest is =
    let some : length (drop n w) ≡ suc (length rest) = ap length is in
    omega (arith, some, length-drop n w)

first_left : (M : Machine) (p : TextPlace) (w : List ℕ) (e : Bool) (k x : ℕ) (rest : List ℕ) → p.at + k < length w → drop (p.at + k) w ≡ x ∷ rest → get_or w (p.at + k) 0 ≡ x
first_left M p w e k x rest lt is = ap (λ l. get_or l 0 0) (sym (split M p w e k lt) ∙ is)

rest_left : (M : Machine) (p : TextPlace) (w : List ℕ) (e : Bool) (k x : ℕ) (rest : List ℕ) → p.at + k < length w → drop (p.at + k) w ≡ x ∷ rest → drop (p.at + (k + 1)) w ≡ rest
rest_left M p w e k x rest lt is = ap (λ l. drop 1 l) (sym (split M p w e k lt) ∙ is)

so_far_next : (M : Machine) (p : TextPlace) (w : List ℕ) (k s x : ℕ) → p.at ≤ length w → p.at + k < length w → SoFar M p (drop p.at w) k s (path_of M p w k) → M.goes_on s ≡ true → get_or w (p.at + k) 0 ≡ x →
    SoFar M p (drop p.at w) (k + 1) (M.next s x) (path_of M p w (k + 1))
so_far_next M p w k s x le lt h live byte =
    let next : SoFar M p (drop p.at w) (k + 1) (M.next s x) (path_of M p w k ++ M.next s x ∷ []) =
    step_more M p w w [] k s (M.next s x) (path_of M p w k) (path_of M p w k ++ M.next s x ∷ []) le (sym (append-nil w)) lt h (λ _. live) (ap (M.next s) (sym byte)) refl in
    subst (λ t. SoFar M p (drop p.at w) (k + 1) (M.next s x) t) next.path_is next

-- no match is made of rules that fit nothing
none_kept : (M : Machine) (n i : ℕ) → ((k : ℕ) → Keeps (M.cut i) n k → ⊥) → (o : Option ℕ) → kept_by (M.cut i) n ≡ o → kept_by (M.cut i) n ≡ None
none_kept M n i h None is = is
none_kept M n i h (Some k) is = absurd (h k (match_sound M n i (Some k) (record { len = n; rule = i; keep = k }) is refl).2)

none_matched : (M : Machine) (n : ℕ) (is : List ℕ) → ((i : ℕ) → Among is i → (k : ℕ) → Keeps (M.cut i) n k → ⊥) → filter_map (match_of M n) is ≡ []
none_matched M n [] h = refl
none_matched M n (i ∷ is) h = no_match M n i is (none_kept M n i (h i (inl refl)) (kept_by (M.cut i) n) refl) ∙ none_matched M n is (λ j a. h j (inr a))

further_back : (M : Machine) (p : TextPlace) (r : Reading) (k : ℕ) → NoneFits M (state_at M p r.window.bytes (k + 1)) → p.at + k < length r.window.bytes → Further M p r (k + 1) → Further M p r k
further_back M p r k none lt after = record {
  reach = after.reach;
  looked = after.looked;
  same = sym (falling_more M p r.window.bytes k lt ∙ ap (λ l. l ++ falling M 0 (path_of M p r.window.bytes k)) (none_matched M (k + 1) (M.accepts (state_at M p r.window.bytes (k + 1))) (λ i a j fits. none i a (k + 1) j fits))) ∙ after.same;
}

pub further : (M : Machine) (p : TextPlace) (r : Reading) → p.at ≤ length r.window.bytes → (rest : List ℕ) (k s : ℕ) (b : Bool) → M.goes_on s ≡ b → drop (p.at + k) r.window.bytes ≡ rest → 1 ≤ k →
    SoFar M p (drop p.at r.window.bytes) k s (path_of M p r.window.bytes k) → Barren M r.at_end s rest → Further M p r k
further M p r le rest k s false stop is some h barren = record {
  reach = k;
  looked = record { reach = k; some = some; state = s; so_far = h; size = (let i = h.inside in omega (arith, i, length-drop p.at r.window.bytes, le)); stops = inl (stop, refl) };
  same = refl;
}
further M p r le [] k s true live is some h barren = record {
  reach = k;
  looked = record {
    reach = k;
    some = some;
    state = s;
    so_far = h;
    size = (let i = h.inside in omega (arith, i, length-drop p.at r.window.bytes, le));
    stops = inr (live, (let i = h.inside in let none : length (drop (p.at + k) r.window.bytes) ≡ 0 = ap length is in omega (arith, i, none, length-drop p.at r.window.bytes, length-drop (p.at + k) r.window.bytes, le)), barren live);
  };
  same = refl;
}
further M p r le (x ∷ rest) k s true live is some h barren =
    let lt : p.at + k < length r.window.bytes = more_left r.window.bytes (p.at + k) x rest is in
    let byte : get_or r.window.bytes (p.at + k) 0 ≡ x = first_left M p r.window.bytes r.at_end k x rest lt is in
    let left : drop (p.at + (k + 1)) r.window.bytes ≡ rest = rest_left M p r.window.bytes r.at_end k x rest lt is in
    let next : SoFar M p (drop p.at r.window.bytes) (k + 1) (M.next s x) (path_of M p r.window.bytes (k + 1)) = so_far_next M p r.window.bytes k s x le lt h live byte in
    further_back M p r k (subst (NoneFits M) next.state_is (barren live).0) lt
    (further M p r le rest (k + 1) (M.next s x) (M.goes_on (M.next s x)) refl left (omega arith) next (barren live).1)

-- a mark of the place tells
pub marked : (M : Machine) (r : Reading) (ms : List Mark) (m : Mark) (i left : ℕ) → AreTrue M r ms → Among ms m → m.place + left ≡ r.taken → i + left ≡ length r.window.bytes → TellsWalk M r.at_end m (drop i r.window.bytes)
marked M r ms m i left h a at all = (h m a).1 i (omega (arith, at, all))

-- a mark that is put where it is known to be true
pub true_put : (M : Machine) (r : Reading) (ms ms' : List Mark) (new : Mark) (i : ℕ) → AreTrue M r ms → ((m : Mark) → Among ms' m → Among ms m ⊎ (m ≡ new)) → new.place ≤ r.taken → new.place + length r.window.bytes ≡ r.taken + i → TellsWalk M r.at_end new (drop i r.window.bytes) →
    AreTrue M r ms'
true_put M r ms ms' new i h put le at tells m a = elim (put m a) [
  | inl old ↦ h m old
  | inr is ↦ subst (IsTrueMark M r) (sym is) (le, λ j e. subst (λ n. TellsWalk M r.at_end new (drop n r.window.bytes)) (omega (arith, at, e)) tells)
]

pub silent_put : (M : Machine) (r : Reading) (ms ms' : List Mark) (place s i : ℕ) → AreTrue M r ms → ((m : Mark) → Among ms' m → Among ms m ⊎ (m ≡ silent place s)) → place ≤ r.taken → place + length r.window.bytes ≡ r.taken + i → Barren M r.at_end s (drop i r.window.bytes) → AreTrue M r ms'
silent_put M r ms ms' place s i h put le at barren = true_put M r ms ms' (silent place s) i h put le at (tells_silent M r.at_end place s (drop i r.window.bytes) barren)

pub none_left : (w : List ℕ) (n : ℕ) → length w ≤ n → drop n w ≡ []
none_left w n le = nil_from_length (drop n w) (omega (arith, length-drop n w, le))

-- marks of a table that was laid out again
pub true_fit : (M : Machine) → MachineLaws M → (r : Reading) (ms ms' : List Mark) → AreTrue M r ms → ((m : Mark) → Among ms' m → Among ms m ⊎ (m ≡ unmarked)) → AreTrue M r ms'
true_fit M laws r ms ms' h fit m a = elim (fit m a) [
  | inl old ↦ h m old
  | inr new ↦ subst (IsTrueMark M r) (sym new) (true_unmarked M laws r)
]

-- the walk from a place on, by the state there
module _ (M : Machine) (p : TextPlace) (w : List ℕ) where
  pub state_further : (k j : ℕ) → state_at M p w (k + j) ≡ walk M (state_at M p w k) (take j (drop (p.at + k) w))
  state_further k j =
      let y : List ℕ = drop p.at w in
      let s : ℕ = M.start p.condition p.line_start in
      ap (walk M s) (take-add k j y) ∙ walk-append M s (take k y) (take j (drop k y)) ∙ ap (λ u. walk M (state_at M p w k) (take j u)) (drop-drop k p.at w)

  -- it goes over the bytes up to a place, each of them asked for
  pub goes_over : (k n last before : ℕ) → k ≤ n → p.at + n ≤ length w → last ≡ state_at M p w n → (1 ≤ n → before ≡ state_at M p w (n - 1)) → ((i : ℕ) → 1 ≤ i → i < n → IsLiveAfter M p (drop p.at w) i) → GoesOver M (state_at M p w k) (take (n - k) (drop (p.at + k) w)) last before
  goes_over k n last before le inside last_is before_is asked = (
    last_is ∙ ap (state_at M p w) (omega (arith, le)) ∙ state_further k (n - k),
    λ some. before_is (omega (arith, some, size, le)) ∙ ap (state_at M p w) (omega (arith, some, size, le)) ∙ state_further k (n - 1 - k) ∙ ap (walk M (state_at M p w k)) (fewer (n - 1 - k) (omega (arith, some, size)) ∙ ap (λ j. take j v) (omega (arith, size))),
    λ i some lt. subst (λ s. M.goes_on s ≡ true) (state_further k i ∙ ap (walk M (state_at M p w k)) (fewer i (omega (arith, lt, size)))) (asked (k + i) (omega (arith, some)) (omega (arith, lt, size, le))),
  )
    where
      v : List ℕ
      v = take (n - k) (drop (p.at + k) w)

      size : length v ≡ n - k
      size = length-take-le (n - k) (drop (p.at + k) w) (omega (arith, length-drop (p.at + k) w, inside, le))

      fewer : (j : ℕ) → j ≤ n - k → take j (drop (p.at + k) w) ≡ take j v
      fewer j few = sym (take-take j (n - k) (drop (p.at + k) w) few)

-- a mark tells where the longest text ends
pub settled_further : (M : Machine) (states : ℕ) → StaysBelow M states → (p : TextPlace) (r : Reading) (len state : ℕ) (b : Settled) (m : Mark) → p.condition < M.conditions → IsText (drop p.at r.window.bytes) → SoFar M p (drop p.at r.window.bytes) len state (path_of M p r.window.bytes len) → 1 ≤ len → M.goes_on state ≡ true → m.state ≡ state →
    TellsWalk M r.at_end m (drop (p.at + len) r.window.bytes) → 1 ≤ m.count → (b.keep ≡ len + m.count) × (b.state ≡ m.last) × (b.before ≡ m.before) × (b.len ≡ len + m.count) → IsSettled M states p r b
settled_further M states below p r len state b m known text h one live same tells some is = record {
  some = omega (arith, is.0, one);
  order = omega (arith, is.0, is.3);
  inside = omega (arith, is.3, inside);
  known = subst (λ s. s < states) (sym state_is) (at_known b.keep);
  before_is = before_is;
  known_before = subst (λ s. s < states) (sym before_is) (at_known (b.keep - 1));
  so_far = record { inside = omega (arith, is.0, inside, length-drop p.at w); state_is = state_is; asked = asked; path_is = refl };
  barren = λ k lo hi. subst BarrenAt (omega (arith, lo, hi, is.0, is.3)) barren;
}
  where
    w : List ℕ
    w = r.window.bytes

    v : List ℕ
    v = drop (p.at + len) w

    here : state ≡ state_at M p w len
    here = h.state_is

    inside : p.at + (len + m.count) ≤ length w
    inside = omega (arith, tells.0, length-drop (p.at + len) w, some)

    at_known : (k : ℕ) → state_at M p w k < states
    at_known k = states_below M states below p.condition p.line_start (take k (drop p.at w)) known (is_text_take k (drop p.at w) text)

    -- so many bytes further on the way of the mark
    further_to : (j : ℕ) → j ≤ m.count → walk M m.state (take j (take m.count v)) ≡ state_at M p w (len + j)
    further_to j le = ap (walk M m.state) (take-take j m.count v le) ∙ ap (λ s. walk M s (take j v)) (same ∙ here) ∙ sym (state_further M p w len j)

    whole : length (take m.count v) ≡ m.count
    whole = length-take-le m.count v tells.0

    last_is : m.last ≡ state_at M p w (len + m.count)
    last_is = tells.1.0 ∙ ap (walk M m.state) (sym (take-take m.count m.count v (omega arith))) ∙ further_to m.count (omega arith)

    state_is : b.state ≡ state_at M p w b.keep
    state_is = is.1 ∙ last_is ∙ ap (state_at M p w) (sym is.0)

    before_is : b.before ≡ state_at M p w (b.keep - 1)
    before_is = is.2 ∙ tells.1.1 (omega (arith, some, whole)) ∙ ap (λ j. walk M m.state (take j (take m.count v))) (omega (arith, whole)) ∙ further_to (m.count - 1) (omega arith) ∙ ap (state_at M p w) (omega (arith, some, is.0))

    asked : (i : ℕ) → 1 ≤ i → i < b.keep → IsLiveAfter M p (drop p.at w) i
    asked i lo hi = elim (cases_lt len i) [
      | inl more ↦ subst (λ s. M.goes_on s ≡ true) (further_to (i - len) (omega (arith, more, hi, is.0)) ∙ ap (state_at M p w) (omega (arith, more))) (tells.1.2 (i - len) (omega (arith, more)) (omega (arith, more, hi, is.0, whole)))
      | inr less ↦ elim (cases_lt i len) [
        | inl before_it ↦ h.asked i lo before_it
        | inr not ↦ subst (λ s. M.goes_on s ≡ true) (here ∙ ap (state_at M p w) (omega (arith, less, not))) live
      ]
    ]

    BarrenAt : ℕ → Type 0
    BarrenAt k = Barren M r.at_end (state_at M p w k) (drop (p.at + k) w)

    barren : BarrenAt (len + m.count)
    barren = subst (λ s. Barren M r.at_end s (drop (p.at + (len + m.count)) w)) last_is
        (subst (λ u. Barren M r.at_end m.last u) (drop-drop m.count (p.at + len) w ∙ ap (λ n. drop n w) (omega arith)) tells.2)

-- a mark that tells of no more bytes
pub silent_barren : (M : Machine) (e : Bool) (m : Mark) (w : List ℕ) → m.count ≡ 0 → TellsWalk M e m w → Barren M e m.state w
silent_barren M e m w none tells =
    subst (λ s. Barren M e s w) (tells.1.0 ∙ ap (λ n. walk M m.state (take n w)) none)
    (subst (λ n. Barren M e m.last (drop n w)) none tells.2)

-- the two together
pub settled_told : (M : Machine) (states : ℕ) → StaysBelow M states → (p : TextPlace) (r : Reading) (a : Walked) (b : Settled) (m : Mark) → p.condition < M.conditions → IsText (drop p.at r.window.bytes) → WalkedOver M states p r a → M.goes_on a.state ≡ true →
    m.state ≡ a.state → TellsWalk M r.at_end m (drop (p.at + a.len) r.window.bytes) → (m.count ≡ 0 → b ≡ settled_of a) →
    (1 ≤ m.count → (b.keep ≡ a.len + m.count) × (b.state ≡ m.last) × (b.before ≡ m.before) × (b.len ≡ a.len + m.count)) → IsSettled M states p r b
settled_told M states below p r a b m known text h live same tells silent_is further_is = elim (cases_lt 0 m.count) [
  | inl some ↦ settled_further M states below p r a.len a.state b m known text h.so_far (omega (arith, h.some, h.order)) live same tells (omega (arith, some)) (further_is (omega (arith, some)))
  | inr none ↦ (let zero_is : m.count ≡ 0 = omega (arith, none) in
      subst (IsSettled M states p r) (sym (silent_is zero_is))
      (settled_at M states p r a h (subst (λ s. Barren M r.at_end s (drop (p.at + a.len) r.window.bytes)) same (silent_barren M r.at_end m (drop (p.at + a.len) r.window.bytes) zero_is tells))))
]

-- all from a place on
pub whole_slice : (w : List ℕ) (at to : ℕ) → to ≡ length w → slice_range w at to ≡ drop at w
whole_slice w at to e = take_all (to - at) (drop at w) (omega (arith, e, length-drop at w))

-- a mark that is put at a place on the way to the last state that accepts
pub true_walk : (M : Machine) (states : ℕ) (p : TextPlace) (r : Reading) (a : Settled) (ms ms' : List Mark) (k place s : ℕ) → AreTrue M r ms → IsSettled M states p r a → ((m : Mark) → Among ms' m → Among ms m ⊎ (m ≡ record { place = place; state = s; count = a.keep - k; last = a.state; before = a.before })) →
    s ≡ state_at M p r.window.bytes k → k ≤ a.keep → (place ≤ r.taken) × (place + length r.window.bytes ≡ r.taken + (p.at + k)) → AreTrue M r ms'
true_walk M states p r a ms ms' k place s t h put is le at = true_put M r ms ms' (record { place = place; state = s; count = a.keep - k; last = a.state; before = a.before }) (p.at + k) t put at.0 at.1 (
  omega (arith, length-drop (p.at + k) w, h.inside, h.order),
  subst (λ q. GoesOver M q (take (a.keep - k) (drop (p.at + k) w)) a.state a.before) (sym is) (goes_over M p w k a.keep a.state a.before le (omega (arith, h.inside, h.order)) h.so_far.state_is (λ _. h.before_is) h.so_far.asked),
  subst (λ u. Barren M r.at_end a.state u) (ap (λ n. drop n w) (omega (arith, le)) ∙ sym (drop-drop (a.keep - k) (p.at + k) w)) (subst (λ q. Barren M r.at_end q (drop (p.at + a.keep) w)) (sym h.so_far.state_is) (h.barren a.keep (omega arith) h.order)),
)
  where
    w : List ℕ
    w = r.window.bytes

-- the places that were kept, and one more
pub kept_more : (xs : List Passed) (x d : Passed) → Among (xs ++ x ∷ []) d → Among xs d ⊎ (d ≡ x)
kept_more [] x d (inl is) = inr is
kept_more [] x d (inr none) = absurd none
kept_more (y ∷ xs) x d (inl is) = inl (inl is)
kept_more (y ∷ xs) x d (inr h) = elim (kept_more xs x d h) [
  | inl old ↦ inl (inr old)
  | inr new ↦ inr new
]

-- the place where a match begins
pub comes_first : (M : Machine) (states : ℕ) (p : TextPlace) (r : Reading) (s : ℕ) → p.at ≤ length r.window.bytes → s ≡ M.start p.condition p.line_start → s < states → IsOnTheWay M states p r (record { len = 0; state = s })
comes_first M states p r s le is known = record { inside = omega (arith, le); state_is = is; known = known }

-- a place further on
pub comes_to : (M : Machine) (states : ℕ) (p : TextPlace) (r : Reading) (d : Passed) (k s : ℕ) → IsOnTheWay M states p r d → d.len ≤ k → p.at + k ≤ length r.window.bytes → s ≡ walk M d.state (slice_range r.window.bytes (p.at + d.len) (p.at + k)) → s < states →
    IsOnTheWay M states p r (record { len = k; state = s })
comes_to M states p r d k s h low le is known = record {
  inside = le;
  state_is = is ∙ ap (λ q. walk M q (slice_range w (p.at + d.len) (p.at + k))) h.state_is ∙ ap (λ n. walk M (state_at M p w d.len) (take n (drop (p.at + d.len) w))) (omega (arith, low)) ∙ sym (state_further M p w d.len (k - d.len)) ∙ ap (state_at M p w) (omega (arith, low));
  known = known;
}
  where
    w : List ℕ
    w = r.window.bytes

-- a place that is marked
pub place_put : (M : Machine) (states : ℕ) (p : TextPlace) (r : Reading) (a : Settled) (d : Passed) (ms ms' : List Mark) (place : ℕ) → IsSettled M states p r a → IsOnTheWay M states p r d → a.keep ≤ d.len → d.len ≤ a.len → AreTrue M r ms →
    ((m : Mark) → Among ms' m → Among ms m ⊎ (m ≡ silent place d.state)) → place ≤ r.taken → place + length r.window.bytes ≡ r.taken + (p.at + d.len) → AreTrue M r ms'
place_put M states p r a d ms ms' place h way lo hi t put le at = silent_put M r ms ms' place d.state (p.at + d.len) t put le at (subst (λ s. Barren M r.at_end s (drop (p.at + d.len) r.window.bytes)) (sym way.state_is) (h.barren d.len lo hi))

-- a walk over all the bytes held that goes on
pub looks_all : (M : Machine) (states : ℕ) (p : TextPlace) (r : Reading) (a : Walked) (result : Ahead) → WalkedOver M states p r a → length r.window.bytes ≤ p.at + a.len → M.goes_on a.state ≡ true → (r.at_end ≡ true → result ≡ Ahead.Settled (settled_of a)) →
    (r.at_end ≡ false → result ≡ Ahead.Open (record { reach = a.len; state = a.state; before = a.before })) → LooksAhead M states p r result
looks_all M states p r a result h all live ended opened = by_end r.at_end refl
  where
    by_end : (b : Bool) → r.at_end ≡ b → LooksAhead M states p r result
    by_end true is = subst (LooksAhead M states p r) (sym (ended is)) (settled_at M states p r a h (barren_ended M r.at_end a.state (drop (p.at + a.len) r.window.bytes) (none_left r.window.bytes (p.at + a.len) all) is))
    by_end false is = subst (LooksAhead M states p r) (sym (opened is)) (record {
      some = omega (arith, h.some, h.order);
      all = omega (arith, all, h.inside);
      so_far = h.so_far;
      goes_on = live;
      before_is = h.before_is;
      known = h.known;
      known_before = h.known_before;
    })
