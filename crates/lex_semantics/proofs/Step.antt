-- One more turn of a scanner: what it saw of the input is enough for every input that goes on from there.
use Rattle.std.proofs.Common.{◌≡◌, ℕ, suc, ◌+◌, ◌-◌, ◌≤◌, ◌<◌, max, Bool, true, false, List, [], ◌++◌, length, take, drop, ◌⊎◌, inl, inr, Some, None, refl, sym, ◌∙◌, ap, subst, arith}
use Rattle.std.proofs.lemmas.List.{append-nil, append_assoc, length-append, length-take-le, length-drop, drop_all}
use Rattle.lex_semantics.specs.Text.{at_line_start, IsText}
use Rattle.lex_semantics.specs.Rules.{Rules}
use Rattle.lex_semantics.specs.Laws.{Laws}
use Rattle.lex_semantics.specs.Candidates.{Candidates}
use Rattle.lex_semantics.specs.Acting.{Ending}
use Rattle.lex_semantics.specs.ActionResults.{perform_results}
use Rattle.lex_semantics.specs.Run.{Place, State, Turn, MatchTurn, EndTurn, NextFrom, first_state}
use Rattle.lex_semantics.specs.Demand.{AsksAt, Asks, AsksFrom, ExtendsGiven, answers}
use Rattle.lex_semantics.specs.Scanned.{AfterTurns, Scanned, Seen, seen_turn, then_turn}
use Rattle.lex_semantics.proofs.Texts.{is_text_drop, is_text_right, line_start_front, part_front}
use Rattle.lex_semantics.proofs.Prefix.{Suffices, match_turn, asks_here, asks_all, front_asks, asks_front, front_splits}

-- One turn over an input, after n turns: how much they ask for together.
pub one_more : (R : Rules) (x : List ℕ) (n : ℕ) (s t : State) (before r : ℕ) → AfterTurns R x n s before → s.ended ≡ None → Turn R x s.place t →
    Asks R x s.place r → AfterTurns R x (suc n) (then_turn s t) (max before (s.place.at + r))
one_more R x n s t before r h going turn asks = (
  s,
  before,
  h,
  subst (λ z. NextFrom R x s z (then_turn s t)) (sym going) (t, turn, refl),
  subst (λ z. AsksFrom R x s.place z before (max before (s.place.at + r))) (sym going) (r, asks, refl),
)

-- a turn after the end changes nothing
pub one_more_ended : (R : Rules) (x : List ℕ) (n : ℕ) (s : State) (asked : ℕ) (ending : Ending) → AfterTurns R x n s asked → s.ended ≡ Some ending → AfterTurns R x (suc n) s asked
one_more_ended R x n s asked ending h is =
    (s, asked, h, subst (λ z. NextFrom R x s z s) (sym is) refl, subst (λ z. AsksFrom R x s.place z asked asked) (sym is) refl)

-- A match that asks for nothing more is the turn of every input that goes on from the bytes given.
pub seen_match : (R : Rules) (l : Laws R) (given rest : List ℕ) (p : Place) (r : ℕ) (h : Seen R given p r) → IsText (given ++ rest) → (drop r (drop p.at given) ++ rest ≡ []) ⊎ (AsksAt R given p r → ⊥) →
    MatchTurn R (given ++ rest) p (seen_turn p h.outcome)
seen_match R l given rest p r h is_text enough =
    let v : List ℕ = take r (drop p.at given) in
    let more : List ℕ = drop r (drop p.at given) ++ rest in
    let line : at_line_start (given ++ rest) p.at ≡ at_line_start given p.at = line_start_front given rest p.at (omega (arith, h.inside)) in
    let text : IsText more = is_text_right v more (subst IsText (front_splits R given rest p r h.inside) (is_text_drop p.at (given ++ rest) is_text)) in
    let n : length v ≡ r = length-take-le r (drop p.at given) (rw length-drop (omega (arith, h.inside))) in
    let len : length (given ++ rest) ≡ length given + length rest = length-append given rest in
    match_turn R l (given ++ rest) p v more text (omega (arith, h.inside, h.some)) (front_splits R given rest p r h.inside) (omega (arith, h.some)) (suffices enough)
    h.matches (subst (λ line_start. Candidates R p.condition line_start v h.matches) (sym line) h.all) h.outcome
    (ap (λ k. perform_results R k v h.matches [] p.condition p.stack) (part_front given rest p.start p.at (omega (arith, h.inside))) ∙ h.performed)
  where
    suffices : (drop r (drop p.at given) ++ rest ≡ []) ⊎ (AsksAt R given p r → ⊥) → Suffices R p.condition (at_line_start (given ++ rest) p.at) (take r (drop p.at given)) (drop r (drop p.at given) ++ rest)
    suffices (inl none) = inl none
    suffices (inr dead) = inr (λ live. dead (inr (subst (λ line_start. R.live p.condition line_start (take r (drop p.at given))) (line_start_front given rest p.at (omega (arith, h.inside))) live)))

-- an input that goes on from more bytes goes on from the first of them
consistent_before : (given more : List ℕ) (at_end : Bool) (x : List ℕ) → (at_end ≡ true → more ≡ []) → ExtendsGiven (given ++ more) at_end x → ExtendsGiven given at_end x
consistent_before given more true x none h = h ∙ ap (λ m. given ++ m) (none refl) ∙ append-nil given
consistent_before given more false x none h = (more ++ h.0, h.1 ∙ append_assoc given more h.0)

-- it is those bytes and a rest
with_rest : (given : List ℕ) (at_end : Bool) (x : List ℕ) → ExtendsGiven given at_end x → (rest : List ℕ) × (x ≡ given ++ rest)
with_rest given true x h = ([], h ∙ sym (append-nil given))
with_rest given false x h = h

-- A turn of a scanner that takes `more` bytes from the source. Its match asks for r bytes, and then for no more.
pub scanned_match : (R : Rules) (l : Laws R) (given more : List ℕ) (at_end : Bool) (n : ℕ) (s : State) (r : ℕ) → s.ended ≡ None → Scanned R given at_end n s →
    (at_end ≡ true → more ≡ []) → (h : Seen R (given ++ more) s.place r) → (AsksAt R (given ++ more) s.place r → ⊥) →
    length (given ++ more) ≡ max (length given) (s.place.at + r) → Scanned R (given ++ more) at_end (suc n) (then_turn s (seen_turn s.place h.outcome))
scanned_match R l given more at_end n s r going before none h dead far x consistent =
    let g : List ℕ = given ++ more in
    let split = with_rest g at_end x consistent.1 in
    let rest : List ℕ = split.0 in
    let is_text : IsText (g ++ rest) = subst IsText split.1 consistent.0 in
    let len : length (g ++ rest) ≡ length g + length rest = length-append g rest in
    let fits : s.place.at + r ≤ length (g ++ rest) = omega (arith, h.inside) in
    let dead_x : AsksAt R (g ++ rest) s.place r → ⊥ = λ a. dead (front_asks R g rest s.place r h.inside a) in
    let asked : (i : ℕ) → i < r → AsksAt R (g ++ rest) s.place i = λ i lt. asks_front R g rest s.place i (omega (arith, h.inside)) (h.asked i lt) in
    let asks : Asks R (g ++ rest) s.place r = asks_here R l (g ++ rest) s.place r is_text fits h.some asked dead_x in
    let turn : Turn R (g ++ rest) s.place (seen_turn s.place h.outcome) = inl (seen_match R l g rest s.place r h is_text (inr dead)) in
    let old : AfterTurns R (g ++ rest) n s (answers given at_end) = subst (λ y. AfterTurns R y n s (answers given at_end)) split.1 (before x (consistent.0, consistent_before given more at_end x none consistent.1)) in
    let count : max (answers given at_end) (s.place.at + r) ≡ answers g at_end = counted at_end none far h.inside in
    subst (λ y. AfterTurns R y (suc n) (then_turn s (seen_turn s.place h.outcome)) (answers g at_end)) (sym split.1)
    (subst (AfterTurns R (g ++ rest) (suc n) (then_turn s (seen_turn s.place h.outcome))) count
    (one_more R (g ++ rest) n s (seen_turn s.place h.outcome) (answers given at_end) r old going turn asks))
  where
    counted : (b : Bool) → (b ≡ true → more ≡ []) → length (given ++ more) ≡ max (length given) (s.place.at + r) → s.place.at + r ≤ length (given ++ more) → max (answers given b) (s.place.at + r) ≡ answers (given ++ more) b
    counted true none far fits =
        let same : length (given ++ more) ≡ length given = ap (λ m. length (given ++ m)) (none refl) ∙ ap length (append-nil given) in
        omega (arith, same, fits)
    counted false none far fits = omega (arith, far)

-- The same where the match asks for a byte after them, and the source answers its end.
pub scanned_match_end : (R : Rules) (l : Laws R) (given more : List ℕ) (at_end : Bool) (n : ℕ) (s : State) (r : ℕ) → s.ended ≡ None → Scanned R given at_end n s →
    (at_end ≡ true → more ≡ []) → (h : Seen R (given ++ more) s.place r) → AsksAt R (given ++ more) s.place r → s.place.at + r ≡ length (given ++ more) →
    Scanned R (given ++ more) true (suc n) (then_turn s (seen_turn s.place h.outcome))
scanned_match_end R l given more at_end n s r going before none h asks all x consistent =
    let g : List ℕ = given ++ more in
    let is_text : IsText g = subst IsText consistent.1 consistent.0 in
    let is_text' : IsText (g ++ []) = subst IsText (sym (append-nil g)) is_text in
    let n_drop : length (drop s.place.at g) ≡ length g - s.place.at = length-drop s.place.at g in
    let nothing : drop r (drop s.place.at g) ++ [] ≡ [] = ap (λ z. z ++ []) (drop_all r (drop s.place.at g) (omega arith)) in
    let turn : Turn R g s.place (seen_turn s.place h.outcome) =
    inl (subst (λ y. MatchTurn R y s.place (seen_turn s.place h.outcome)) (append-nil g) (seen_match R l g [] s.place r h is_text' (inl nothing))) in
    let asks : Asks R g s.place (suc r) = asks_all R g s.place (suc r) (omega (arith, all)) on in
    let len : length g ≡ length given + length more = length-append given more in
    let old : AfterTurns R g n s (answers given at_end) = before g (is_text, consistent_before given more at_end g none (ends_here at_end)) in
    let count : max (answers given at_end) (s.place.at + suc r) ≡ answers g true = counted at_end len in
    subst (λ y. AfterTurns R y (suc n) (then_turn s (seen_turn s.place h.outcome)) (answers g true)) (sym consistent.1)
    (subst (AfterTurns R g (suc n) (then_turn s (seen_turn s.place h.outcome))) count
    (one_more R g n s (seen_turn s.place h.outcome) (answers given at_end) (suc r) old going turn asks))
  where
    ends_here : (e : Bool) → ExtendsGiven (given ++ more) e (given ++ more)
    ends_here true = refl
    ends_here false = ([], sym (append-nil (given ++ more)))

    on : (i : ℕ) → i < suc r → AsksAt R (given ++ more) s.place i
    on i lt = from (grind arith)
      where
        from : (i < r) ⊎ (i ≡ r) → AsksAt R (given ++ more) s.place i
        from (inl less) = h.asked i less
        from (inr e) = subst (AsksAt R (given ++ more) s.place) (sym e) asks

    counted : (b : Bool) → length (given ++ more) ≡ length given + length more → max (answers given b) (s.place.at + suc r) ≡ answers (given ++ more) true
    counted true len = omega (arith, all, len)
    counted false len = omega (arith, all, len)

-- A turn at the end of the input, for which the source has answered its end.
pub scanned_end : (R : Rules) (given : List ℕ) (at_end : Bool) (n : ℕ) (s t : State) → s.ended ≡ None → Scanned R given at_end n s → s.place.at ≡ length given →
    EndTurn R given s.place t → Scanned R given true (suc n) (then_turn s t)
scanned_end R given at_end n s t going before at turn x consistent =
    let is_text : IsText given = subst IsText consistent.1 consistent.0 in
    let old : AfterTurns R given n s (answers given at_end) = before given (is_text, ends_here at_end) in
    let asks : Asks R given s.place 1 = asks_all R given s.place 1 (omega (arith, at)) (λ i lt. inl (omega (arith, lt))) in
    subst (λ y. AfterTurns R y (suc n) (then_turn s t) (answers given true)) (sym consistent.1)
    (subst (AfterTurns R given (suc n) (then_turn s t)) (counted at_end) (one_more R given n s t (answers given at_end) 1 old going (inr turn) asks))
  where
    ends_here : (e : Bool) → ExtendsGiven given e given
    ends_here true = refl
    ends_here false = ([], sym (append-nil given))

    counted : (b : Bool) → max (answers given b) (s.place.at + 1) ≡ answers given true
    counted true = omega (arith, at)
    counted false = omega (arith, at)

-- A turn after the end.
pub scanned_ended : (R : Rules) (given : List ℕ) (at_end : Bool) (n : ℕ) (s : State) (e : Ending) → s.ended ≡ Some e → Scanned R given at_end n s → Scanned R given at_end (suc n) s
scanned_ended R given at_end n s e is before x consistent = one_more_ended R x n s (answers given at_end) e (before x consistent) is

-- A scanner that has made no turn.
pub scanned_first : (R : Rules) → Scanned R [] false 0 first_state
scanned_first R x consistent = (refl, refl)
