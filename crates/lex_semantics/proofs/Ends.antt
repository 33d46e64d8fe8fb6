-- Each input has a run: in a turn that does not end the scan the text's start grows, or it stays and the place grows.
use Rattle.std.proofs.Common.{◌≡◌, ℕ, zero, suc, ◌+◌, ◌-◌, ◌≤◌, ◌<◌, min, Bool, true, false, List, [], ◌∷◌, ◌++◌, length, take, drop, ◌⊎◌, inl, inr, Option, Some, None, refl, sym, ◌∙◌, ap, subst, arith}
use Rattle.std.specs.Prelude.{nat_lt, if◌then◌else◌, ⊤}
use Rattle.std.proofs.lemmas.List.{length-append, length-take, length-take-le, length-drop}
use Rattle.std.proofs.lemmas.Bool.{cond-true, cond-false, lt-ltb, le-ltb, cases_lt}
use Rattle.lex_semantics.proofs.ResultsAre.{results_are}
use Rattle.lex_semantics.specs.Text.{Among, part, at_line_start}
use Rattle.lex_semantics.specs.Spec.{Statement, Echo, Print, Begin, More, Less, Reject, End, Push, Pop}
use Rattle.lex_semantics.specs.Rules.{Rules, Full, statements_of}
use Rattle.lex_semantics.specs.Laws.{Laws}
use Rattle.lex_semantics.specs.Legal.{has_less, has_more, IsAction}
use Rattle.lex_semantics.proofs.Actions.{LessFromOne, less_from_one, apart, echo_legal}
use Rattle.lex_semantics.specs.Candidates.{Candidate, IsCandidate, Candidates}
use Rattle.lex_semantics.specs.Acting.{Ending, Status, StackFault, Acting}
use Rattle.lex_semantics.specs.ActionResults.{ActionResult, Done, Again, Over, act_result, has_room, popped, settle, perform_results}
use Rattle.lex_semantics.proofs.Once.{run_by}
use Rattle.lex_semantics.specs.Run.{Place, State, Turn, NextFrom, Turns, Run, first_state, next_place, next_start}

no_true : {A : Type 0} → true ≡ false → A
no_true e = absurd (no e)
  where
    no : true ≡ false → ⊥
    no p = cc

-- of an action that is done or ends the scan
abbrev pub Leaves : (Acting → Type 0) → ActionResult → Type 0
Leaves P (Done a) = P a
Leaves P (Again a) = ⊤
Leaves P (Over a e) = P a

-- a fault of the stack leaves what was there
pub unless_full : (P : Acting → Type 0) (b : Bool) (a : Acting) (w : ActionResult) → P a → Leaves P w → Leaves P (if b then w else Over a StackFault)
unless_full P true a w h k = k
unless_full P false a w h k = h

pub unless_empty : (P : Acting → Type 0) (cs : List ℕ) (a : Acting) (next : ℕ → List ℕ → ActionResult) → P a → ((c : ℕ) (rest : List ℕ) → Leaves P (next c rest)) → Leaves P (popped cs a next)
unless_empty P [] a next h k = h
unless_empty P (c ∷ cs) a next h k = k c cs

pub no_longer : (n : ℕ) (ss : List Statement) (a : Acting) → length a.text ≤ n → Leaves (λ b. length b.text ≤ n) (act_result ss a)
no_longer n [] a h = h
no_longer n (Echo ∷ ss) a h = no_longer n ss (record a { written = a.written ++ a.text }) h
no_longer n (Print s ∷ ss) a h = no_longer n ss (record a { written = a.written ++ s }) h
no_longer n (Begin d ∷ ss) a h = no_longer n ss (record a { condition = d }) h
no_longer n (More ∷ ss) a h = no_longer n ss (record a { more = true }) h
no_longer n (Less m ∷ ss) a h = let e : length (take m a.text) ≡ min m (length a.text) = length-take m a.text in no_longer n ss (record a { text = take m a.text }) (omega arith)
no_longer n (Reject ∷ ss) a h = tt
no_longer n (End s ∷ ss) a h = h
no_longer n (Push d ∷ ss) a h =
    unless_full (λ b. length b.text ≤ n) (has_room a.stack) a (act_result ss (record a { condition = d; stack = a.condition ∷ a.stack })) h
    (no_longer n ss (record a { condition = d; stack = a.condition ∷ a.stack }) h)
no_longer n (Pop ∷ ss) a h =
    unless_empty (λ b. length b.text ≤ n) a.stack a (λ c cs. act_result ss (record a { condition = c; stack = cs })) h
    (λ c cs. no_longer n ss (record a { condition = c; stack = cs }) h)

pub not_empty : (ss : List Statement) (a : Acting) → LessFromOne ss → 1 ≤ length a.text → Leaves (λ b. 1 ≤ length b.text) (act_result ss a)
not_empty [] a l h = h
not_empty (Echo ∷ ss) a l h = not_empty ss (record a { written = a.written ++ a.text }) l h
not_empty (Print s ∷ ss) a l h = not_empty ss (record a { written = a.written ++ s }) l h
not_empty (Begin d ∷ ss) a l h = not_empty ss (record a { condition = d }) l h
not_empty (More ∷ ss) a l h = not_empty ss (record a { more = true }) l h
not_empty (Less m ∷ ss) a l h = let e : length (take m a.text) ≡ min m (length a.text) = length-take m a.text in not_empty ss (record a { text = take m a.text }) l.1 (omega (arith, l.0))
not_empty (Reject ∷ ss) a l h = tt
not_empty (End s ∷ ss) a l h = h
not_empty (Push d ∷ ss) a l h =
    unless_full (λ b. 1 ≤ length b.text) (has_room a.stack) a (act_result ss (record a { condition = d; stack = a.condition ∷ a.stack })) h
    (not_empty ss (record a { condition = d; stack = a.condition ∷ a.stack }) l h)
not_empty (Pop ∷ ss) a l h =
    unless_empty (λ b. 1 ≤ length b.text) a.stack a (λ c cs. act_result ss (record a { condition = c; stack = cs })) h
    (λ c cs. not_empty ss (record a { condition = c; stack = cs }) l h)

same_text : (n : ℕ) (ss : List Statement) (a : Acting) → has_less ss ≡ false → length a.text ≡ n → Leaves (λ b. length b.text ≡ n) (act_result ss a)
same_text n [] a l h = h
same_text n (Echo ∷ ss) a l h = same_text n ss (record a { written = a.written ++ a.text }) l h
same_text n (Print s ∷ ss) a l h = same_text n ss (record a { written = a.written ++ s }) l h
same_text n (Begin d ∷ ss) a l h = same_text n ss (record a { condition = d }) l h
same_text n (More ∷ ss) a l h = same_text n ss (record a { more = true }) l h
same_text n (Less m ∷ ss) a l h = no_true l
same_text n (Reject ∷ ss) a l h = tt
same_text n (End s ∷ ss) a l h = h
same_text n (Push d ∷ ss) a l h =
    unless_full (λ b. length b.text ≡ n) (has_room a.stack) a (act_result ss (record a { condition = d; stack = a.condition ∷ a.stack })) h
    (same_text n ss (record a { condition = d; stack = a.condition ∷ a.stack }) l h)
same_text n (Pop ∷ ss) a l h =
    unless_empty (λ b. length b.text ≡ n) a.stack a (λ c cs. act_result ss (record a { condition = c; stack = cs })) h
    (λ c cs. same_text n ss (record a { condition = c; stack = cs }) l h)

no_more : (ss : List Statement) (a : Acting) → has_more ss ≡ false → a.more ≡ false → Leaves (λ b. b.more ≡ false) (act_result ss a)
no_more [] a l h = h
no_more (Echo ∷ ss) a l h = no_more ss (record a { written = a.written ++ a.text }) l h
no_more (Print s ∷ ss) a l h = no_more ss (record a { written = a.written ++ s }) l h
no_more (Begin d ∷ ss) a l h = no_more ss (record a { condition = d }) l h
no_more (More ∷ ss) a l h = no_true l
no_more (Less m ∷ ss) a l h = no_more ss (record a { text = take m a.text }) l h
no_more (Reject ∷ ss) a l h = tt
no_more (End s ∷ ss) a l h = h
no_more (Push d ∷ ss) a l h =
    unless_full (λ b. b.more ≡ false) (has_room a.stack) a (act_result ss (record a { condition = d; stack = a.condition ∷ a.stack })) h
    (no_more ss (record a { condition = d; stack = a.condition ∷ a.stack }) l h)
no_more (Pop ∷ ss) a l h =
    unless_empty (λ b. b.more ≡ false) a.stack a (λ c cs. act_result ss (record a { condition = c; stack = cs })) h
    (λ c cs. no_more ss (record a { condition = c; stack = cs }) l h)

-- The outcome of a match over `kept` bytes and a rest of `left`: the text lies inside, and it is kept whole and longer
-- than `kept`, or it is not empty and the next text starts at its end.
pub record Progresses (kept left : ℕ) (a : Acting) : Type 0 where
  pub inside : length a.text ≤ kept + left
  pub grows : ((kept < length a.text)) ⊎ ((1 ≤ length a.text) × (a.more ≡ false))

on_went : (P Q S : Acting → Type 0) (w : ActionResult) → Leaves P w → Leaves Q w → ((a : Acting) → P a → Q a → S a) → Leaves S w
on_went P Q S (Done a) h k f = f a h k
on_went P Q S (Again a) h k f = tt
on_went P Q S (Over a e) h k f = f a h k

act_goes_on : (n kept left : ℕ) (ss : List Statement) (a : Acting) → IsAction n ss → a.more ≡ false → kept < length a.text → length a.text ≤ kept + left → Leaves (Progresses kept left) (act_result ss a)
act_goes_on n kept left ss a legal more some inside = from (apart n ss legal)
  where
    size : Leaves (λ b. length b.text ≤ kept + left) (act_result ss a)
    size = no_longer (kept + left) ss a inside

    from : (has_less ss ≡ false) ⊎ (has_more ss ≡ false) → Leaves (Progresses kept left) (act_result ss a)
    from (inl l) =
        on_went (λ b. length b.text ≤ kept + left) (λ b. length b.text ≡ length a.text) (Progresses kept left) (act_result ss a) size (same_text (length a.text) ss a l refl)
        (λ b p q. record { inside = p; grows = inl (omega (arith, q, some)) })
    from (inr m) =
        let both : Leaves (λ b. (1 ≤ length b.text) × (b.more ≡ false)) (act_result ss a) =
        on_went (λ b. 1 ≤ length b.text) (λ b. b.more ≡ false) (λ b. (1 ≤ length b.text) × (b.more ≡ false)) (act_result ss a) (not_empty ss a (less_from_one n ss legal.ranges) (omega arith)) (no_more ss a m more) (λ b p q. (p, q)) in
        on_went (λ b. length b.text ≤ kept + left) (λ b. (1 ≤ length b.text) × (b.more ≡ false)) (Progresses kept left) (act_result ss a) size both (λ b p q. record { inside = p; grows = inr q })

abbrev pub GoodMatch : ℕ → ℕ → Option Acting → Type 0
GoodMatch kept left r = (o : Acting) × (r ≡ Some o) × Progresses kept left o

-- the action of a match settles it, or the next match does
settle_good : (kept left : ℕ) (w : ActionResult) (f : Acting → Option Acting) → Leaves (Progresses kept left) w → ((a : Acting) → w ≡ Again a → GoodMatch kept left (f a)) → GoodMatch kept left (settle w f)
settle_good kept left (Done a) f h later = (record a { ended = None }, refl, record { inside = h.inside; grows = h.grows })
settle_good kept left (Again a) f h later = later a refl
settle_good kept left (Over a e) f h later = (record a { ended = Some e }, refl, record { inside = h.inside; grows = h.grows })

module _ (R : Rules) (legal : (i : ℕ) → i < R.count → IsAction R.conditions (R.statements i)) where
  pub legal_of : (i : ℕ) → (i < R.count) ⊎ (R.count ≤ i) → IsAction R.conditions (statements_of R i)
  legal_of i (inl lt) = subst (IsAction R.conditions) (sym (cond-true (nat_lt i R.count) (R.statements i) (Echo ∷ []) (lt-ltb i R.count lt))) (legal i lt)
  legal_of i (inr le) = subst (IsAction R.conditions) (sym (cond-false (nat_lt i R.count) (R.statements i) (Echo ∷ []) (le-ltb i R.count le))) (echo_legal R.conditions)

  pub default_echoes : (i : ℕ) → i ≡ R.count → statements_of R i ≡ Echo ∷ []
  default_echoes i e = cond-false (nat_lt i R.count) (R.statements i) (Echo ∷ []) (le-ltb i R.count (omega arith))

  pub perform_good : (kept y : List ℕ) (ms : List Candidate) (out : List ℕ) (c : ℕ) (cs : List ℕ) → ((m : Candidate) → Among ms m → (1 ≤ m.keep) × (m.keep ≤ length y)) →
      (d : Candidate) → Among ms d → d.rule ≡ R.count → GoodMatch (length kept) (length y) (perform_results R kept y ms out c cs)
  unfolding perform_results
  perform_good kept y [] out c cs h d among is = absurd among
  perform_good kept y (m ∷ ms) out c cs h d among is =
      let a : Acting = record { text = kept ++ take m.keep y; written = out; condition = c; stack = cs; more = false; ended = None } in
      let k = h m (inl refl) in
      let size : length (kept ++ take m.keep y) ≡ length kept + m.keep = length-append kept (take m.keep y) ∙ ap (λ n. length kept + n) (length-take-le m.keep y k.1) in
      settle_good (length kept) (length y) (act_result (statements_of R m.rule) a) (λ b. perform_results R kept y ms b.written b.condition b.stack)
      (act_goes_on R.conditions (length kept) (length y) (statements_of R m.rule) a (legal_of m.rule (cases_lt m.rule R.count)) refl (omega (arith, k.0)) (omega (arith, k.1)))
      (λ b again. perform_good kept y ms b.written b.condition b.stack (λ n i. h n (inr i)) d (in_rest a b again among) is)
    where
      not_again : (a b : Acting) → Done a ≡ Again b → ⊥
      not_again a b e = cc

      in_rest : (a b : Acting) → act_result (statements_of R m.rule) a ≡ Again b → Among (m ∷ ms) d → Among ms d
      in_rest a b again (inr k) = k
      in_rest a b again (inl e) =
          let rule : m.rule ≡ R.count = ap (λ (z : Candidate). z.rule) (sym e) ∙ is in
          absurd (not_again (record a { written = a.written ++ a.text }) b (ap (λ ss. act_result ss a) (sym (default_echoes m.rule rule)) ∙ again))

-- A place in order, inside the input.
pub record Inside (x : List ℕ) (p : Place) : Type 0 where
  pub ordered : p.start ≤ p.at
  pub fits : p.at ≤ length x

-- the text's start grows, or it stays and the place grows
abbrev pub Grows : Place → Place → Type 0
Grows p q = (p.start < q.start) ⊎ ((p.start ≡ q.start) × (p.at < q.at))

abbrev pub Moves : List ℕ → Place → State → Type 0
Moves x p s = ((e : Ending) × (s.ended ≡ Some e)) ⊎ ((s.ended ≡ None) × Inside x s.place × Grows p s.place)

place_from : (x : List ℕ) (p : Place) (a : Acting) → Inside x p → Progresses (p.at - p.start) (length x - p.at) a → (b : Bool) → a.more ≡ b →
    (q : Place) → q ≡ record { start = if b then p.start else p.start + length a.text; at = p.start + length a.text; condition = a.condition; stack = a.stack } → Inside x q × Grows p q
place_from x p a h g true is q e =
    let s : q.start ≡ p.start = ap (λ (z : Place). z.start) e in
    let t : q.at ≡ p.start + length a.text = ap (λ (z : Place). z.at) e in
    (record { ordered = omega (arith, h.ordered, s, t); fits = omega (arith, h.ordered, h.fits, g.inside, t) }, inr (sym s, longer s t g.grows))
  where
    longer : q.start ≡ p.start → q.at ≡ p.start + length a.text → (p.at - p.start < length a.text) ⊎ ((1 ≤ length a.text) × (a.more ≡ false)) → p.at < q.at
    longer s t (inl lt) = omega (arith, h.ordered)
    longer s t (inr k) = no_true (sym is ∙ k.1)
place_from x p a h g false is q e =
    let s : q.start ≡ p.start + length a.text = ap (λ (z : Place). z.start) e in
    let t : q.at ≡ p.start + length a.text = ap (λ (z : Place). z.at) e in
    (record { ordered = omega (arith, s, t); fits = omega (arith, h.ordered, h.fits, g.inside, t) }, inl (longer s g.grows))
  where
    longer : q.start ≡ p.start + length a.text → (p.at - p.start < length a.text) ⊎ ((1 ≤ length a.text) × (a.more ≡ false)) → p.start < q.start
    longer s (inl lt) = omega arith
    longer s (inr k) = omega (arith, k.0)

moves_from : (x : List ℕ) (p : Place) (o : Acting) → Inside x p → Progresses (p.at - p.start) (length x - p.at) o → (e : Option Ending) → o.ended ≡ e →
    Moves x p (record { written = o.written; place = next_place p o; ended = o.ended })
moves_from x p o h g (Some e) is = inl (e, is)
moves_from x p o h g None is =
    let end : ℕ = p.start + length o.text in
    let r = place_from x p o h g o.more refl (next_place p o) (ap (λ z. record { start = next_start z o.more p.start end; at = end; condition = o.condition; stack = o.stack }) is) in inr (is, r.0, r.1)

module _ (R : Rules) (l : Laws R) (legal : (i : ℕ) → i < R.count → IsAction R.conditions (R.statements i))
    (exist : (c : ℕ) (line_start : Bool) (y : List ℕ) → (ms : List Candidate) × Candidates R c line_start y ms) (x : List ℕ) where
  pub keep_bounds : (c : ℕ) (line_start : Bool) (y : List ℕ) (m : Candidate) → IsCandidate R c line_start y m → (1 ≤ m.keep) × (m.keep ≤ length y)
  keep_bounds c line_start y m h = from h.1
    where
      n : length (take m.len y) ≡ m.len
      n = length-take-le m.len y h.0

      from : Full R c line_start (take m.len y) m.rule m.keep → (1 ≤ m.keep) × (m.keep ≤ length y)
      from (inl f) = (l.some_text c line_start (take m.len y) m.rule m.keep f.1, omega (arith, l.inside c line_start (take m.len y) m.rule m.keep f.1, n, h.0))
      from (inr f) = (omega (arith, f.2), omega (arith, f.1, f.2, n, h.0))

  pub turn_exists : (p : Place) → Inside x p → (s : State) × Turn R x p s × Moves x p s
  turn_exists p h = from (cases_lt p.at (length x))
    where
      from : (p.at < length x) ⊎ (length x ≤ p.at) → (s : State) × Turn R x p s × Moves x p s
      from (inr le) =
          let u : State = record { written = (R.ending p.condition).print; place = record { start = p.at; at = p.at; condition = p.condition; stack = p.stack }; ended = Some (Status (R.ending p.condition).status) } in
          (u, inr (record { at_end = omega (arith, h.fits); leaves = refl }), inl (Status (R.ending p.condition).status, refl))
      from (inl lt) =
          let line_start : Bool = at_line_start x p.at in
          let y : List ℕ = drop p.at x in
          let kept : List ℕ = part x p.start p.at in
          let listed = exist p.condition line_start y in
          let left : length y ≡ length x - p.at = length-drop p.at x in
          let before : length kept ≡ p.at - p.start = length-take-le (p.at - p.start) (drop p.start x) (rw length-drop (omega (arith, h.ordered, h.fits))) in
          let one : Candidate = record { len = 1; rule = R.count; keep = 1 } in
          let some : 1 ≤ length y = omega arith in
          let among : Among listed.0 one = (listed.1.members one).1 (some, inr (refl, length-take-le 1 y some, refl)) in
          let good = perform_good R legal kept y listed.0 [] p.condition p.stack (λ m a. keep_bounds p.condition line_start y m ((listed.1.members m).0 a)) one among refl in
          let o : Acting = good.0 in
          let u : State = record { written = o.written; place = next_place p o; ended = o.ended } in
          let goes : Progresses (p.at - p.start) (length x - p.at) o = subst (λ n. Progresses (p.at - p.start) n o) left (subst (λ n. Progresses n (length y) o) before good.2) in
          (u, inl (record { before_end = lt; matches = listed.0; all = listed.1; outcome = o; performed = results_are _ _ _ _ _ _ _ ∙ good.1; leaves = refl }), moves_from x p o h goes o.ended refl)

  -- from a state that has not ended the scan ends
  abbrev pub Ends : State → Type 0
  Ends s = (n : ℕ) → Turns R x n s → (m : ℕ) × (t : State) × (e : Ending) × Turns R x m t × (t.ended ≡ Some e)

  step : (s : State) → s.ended ≡ None → Inside x s.place →
      ((t : State) → t.ended ≡ None → Inside x t.place → Grows s.place t.place → Ends t) → Ends s
  step s going h later n turns = from (turn_exists s.place h)
    where
      from : ((u : State) × Turn R x s.place u × Moves x s.place u) → (m : ℕ) × (t : State) × (e : Ending) × Turns R x m t × (t.ended ≡ Some e)
      from (u, turn, moves) =
          let t : State = record { written = s.written ++ u.written; place = u.place; ended = u.ended } in
          let more : Turns R x (suc n) t = (s, turns, subst (λ z. NextFrom R x s z t) (sym going) (u, turn, refl)) in
          on t more moves
        where
          on : (t : State) → Turns R x (suc n) t → ((e : Ending) × (t.ended ≡ Some e)) ⊎ ((t.ended ≡ None) × Inside x t.place × Grows s.place t.place) →
              (m : ℕ) × (v : State) × (e : Ending) × Turns R x m v × (v.ended ≡ Some e)
          on t more (inl e) = (suc n, t, e.0, more, e.1)
          on t more (inr k) = later t k.0 k.1 k.2 (suc n) more

  -- by how much of the input the place may still grow, where the text's start stays
  inner : (b : ℕ) → ((t : State) → t.ended ≡ None → Inside x t.place → b < t.place.start → Ends t) →
      (d : ℕ) (s : State) → s.ended ≡ None → Inside x s.place → s.place.start ≡ b → length x - s.place.at ≤ d → Ends s
  inner b outer zero s going h is le =
      step s going h (λ t g k grows. at_end t g k grows)
    where
      at_end : (t : State) → t.ended ≡ None → Inside x t.place → Grows s.place t.place → Ends t
      at_end t g k (inl lt) = outer t g k (omega arith)
      at_end t g k (inr same) = absurd (omega (arith, same.1, k.fits, h.fits, le))
  inner b outer (suc d) s going h is le =
      step s going h (λ t g k grows. next t g k grows (inner b outer d t g k))
    where
      next : (t : State) → t.ended ≡ None → Inside x t.place → Grows s.place t.place → (t.place.start ≡ b → length x - t.place.at ≤ d → Ends t) → Ends t
      next t g k (inl lt) later = outer t g k (omega arith)
      next t g k (inr same) later = later (omega (arith, same.0, is)) (omega (arith, same.1, k.fits, le))

  -- by how much the text's start may still grow
  outer : (d : ℕ) (s : State) → s.ended ≡ None → Inside x s.place → length x - s.place.start ≤ d → Ends s
  outer zero s going h le = inner s.place.start (λ t g k lt. absurd (omega (arith, k.ordered, k.fits, lt, le))) (length x) s going h refl (omega arith)
  outer (suc d) s going h le = inner s.place.start (λ t g k lt. outer d t g k (omega (arith, k.ordered, k.fits, lt, le))) (length x) s going h refl (omega arith)

  -- Each input has a run.
  pub run_exists : (w : List ℕ) × (e : Ending) × Run R x w e
  run_exists =
      let r = outer (length x) first_state refl (record { ordered = omega arith; fits = omega arith }) (omega arith) 0 refl in
      (r.1.written, r.2, run_by R x r.1.written r.2 r.0 r.1 r.3 refl r.4)
