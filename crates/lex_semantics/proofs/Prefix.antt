-- Turns, and how much they ask for, depend only on the bytes asked for.
use Rattle.std.proofs.Common.{◌≡◌, ℕ, zero, suc, ◌+◌, ◌-◌, ◌≤◌, ◌<◌, max, Bool, List, [], ◌++◌, length, take, drop, ◌⊎◌, inl, inr, Option, Some, None, refl, sym, ◌∙◌, ap, subst, arith}
use Rattle.std.proofs.lemmas.List.{take-append-drop, take-append-le, append-nil, append_assoc, length-append, length-take-le, length-drop, drop-append-le}
use Rattle.lex_semantics.proofs.ResultsAre.{results_are}
use Rattle.lex_semantics.specs.Text.{part, at_line_start, IsText}
use Rattle.lex_semantics.specs.Rules.{Rules}
use Rattle.lex_semantics.specs.Laws.{Laws}
use Rattle.lex_semantics.specs.Candidates.{Candidate, Candidates}
use Rattle.lex_semantics.specs.Acting.{Ending, Acting}
use Rattle.lex_semantics.specs.ActionResults.{perform_results}
use Rattle.lex_semantics.specs.Run.{Place, State, Turn, MatchTurn, NextFrom, next_place}
use Rattle.lex_semantics.specs.Demand.{AsksAt, Asks, AsksFrom}
use Rattle.lex_semantics.specs.Scanned.{AfterTurns}
use Rattle.lex_semantics.proofs.Texts.{is_text_drop, is_text_right, take_longer, line_start_front, part_front}
use Rattle.lex_semantics.proofs.Local.{more_input, less_input, keep_inside, same_performed}

-- the bytes that a match saw, and nothing more of the input or nothing more that a match could use
abbrev pub Suffices : Rules → ℕ → Bool → (v rest : List ℕ) → Type 0
Suffices R c line_start v rest = (rest ≡ []) ⊎ (R.live c line_start v → ⊥)

more_matches : (R : Rules) (l : Laws R) (c : ℕ) (line_start : Bool) (v rest : List ℕ) → IsText rest → 1 ≤ length v → Suffices R c line_start v rest →
    (ms : List Candidate) → Candidates R c line_start v ms → Candidates R c line_start (v ++ rest) ms
more_matches R l c line_start v rest is_text some (inl e) ms h = subst (λ y. Candidates R c line_start y ms) (sym (append-nil v) ∙ ap (λ r. v ++ r) (sym e)) h
more_matches R l c line_start v rest is_text some (inr dead) ms h = more_input R l c line_start v rest is_text some dead ms h

-- the outcome of a match is what its actions make of the bytes that it saw
same_outcome : (R : Rules) (l : Laws R) (c : ℕ) (line_start : Bool) (kept v rest : List ℕ) (ms : List Candidate) (d : ℕ) (cs : List ℕ) → Candidates R c line_start v ms →
    perform_results R kept v ms [] d cs ≡ perform_results R kept (v ++ rest) ms [] d cs
same_outcome R l c line_start kept v rest ms d cs h =
    same_performed R kept v (v ++ rest) ms [] d cs (λ m a. sym (take-append-le m.keep v rest (keep_inside R l c line_start v m ((h.members m).0 a))))

-- A match that saw the bytes v at its place, and needs no more, is the turn there.
pub match_turn : (R : Rules) (l : Laws R) (x : List ℕ) (p : Place) (v rest : List ℕ) → IsText rest → p.at < length x → drop p.at x ≡ v ++ rest → 1 ≤ length v →
    Suffices R p.condition (at_line_start x p.at) v rest →
    (ms : List Candidate) → Candidates R p.condition (at_line_start x p.at) v ms →
    (o : Acting) → perform_results R (part x p.start p.at) v ms [] p.condition p.stack ≡ Some o →
    MatchTurn R x p (record { written = o.written; place = next_place p o; ended = o.ended })
match_turn R l x p v rest is_text before splits some enough ms h o done = record {
  before_end = before;
  matches = ms;
  all = subst (λ y. Candidates R p.condition (at_line_start x p.at) y ms) (sym splits) (more_matches R l p.condition (at_line_start x p.at) v rest is_text some enough ms h);
  outcome = o;
  performed = results_are _ _ _ _ _ _ _ ∙ ap (λ y. perform_results R (part x p.start p.at) y ms [] p.condition p.stack) splits ∙ sym (same_outcome R l p.condition (at_line_start x p.at) (part x p.start p.at) v rest ms p.condition p.stack h) ∙ done;
  leaves = refl;
}

-- What is not asked for after r bytes is not asked for later.
not_later : (R : Rules) (l : Laws R) (x : List ℕ) (p : Place) (r i : ℕ) → IsText x → p.at + i ≤ length x → 1 ≤ r → r ≤ i → (AsksAt R x p r → ⊥) → AsksAt R x p i → ⊥
not_later R l x p r i is_text fits some le dead (inl e) = omega arith
not_later R l x p r i is_text fits some le dead (inr h) =
    let n : length (drop p.at x) ≡ length x - p.at = length-drop p.at x in
    let longer = take_longer r i (drop p.at x) le (omega arith) in
    dead (inr (l.live_shorter p.condition (at_line_start x p.at) (take r (drop p.at x)) longer.0 (longer.3 (is_text_drop p.at x is_text)) (subst (λ w. R.live p.condition (at_line_start x p.at) w) longer.1 h)))

-- A match that asked for r bytes, and then for no more, asks for just these.
pub asks_here : (R : Rules) (l : Laws R) (x : List ℕ) (p : Place) (r : ℕ) → IsText x → p.at + r ≤ length x → 1 ≤ r →
    ((i : ℕ) → i < r → AsksAt R x p i) → (AsksAt R x p r → ⊥) → Asks R x p r
asks_here R l x p r is_text fits some asked dead i = (λ lt. (omega (arith, lt, fits), asked i lt), λ (inside, a). below inside a (grind arith))
  where
    below : p.at + i ≤ length x → AsksAt R x p i → (i < r) ⊎ (r ≤ i) → i < r
    below inside a (inl b) = b
    below inside a (inr le) = absurd (not_later R l x p r i is_text inside some le dead a)

-- A turn that asked for every byte up to the input's end, and for the end, asks for all answers.
pub asks_all : (R : Rules) (x : List ℕ) (p : Place) (r : ℕ) → p.at + r ≡ suc (length x) → ((i : ℕ) → i < r → AsksAt R x p i) → Asks R x p r
asks_all R x p r all asked i = (λ lt. (omega (arith, lt, all), asked i lt), λ (inside, a). omega (arith, inside, all))

-- A turn in the input asks for something.
pub asks_some : (R : Rules) (x : List ℕ) (p : Place) (r : ℕ) → p.at ≤ length x → Asks R x p r → 1 ≤ r
asks_some R x p r le h = (h 0).1 (omega (arith, le), inl refl)

-- It asks for nothing after that, and no more than there is.
pub asks_no_more : (R : Rules) (x : List ℕ) (p : Place) (r : ℕ) → p.at + r ≤ length x → Asks R x p r → AsksAt R x p r → ⊥
asks_no_more R x p r fits h a = let bad : r < r = (h r).1 (fits, a) in omega arith

pub asks_inside : (R : Rules) (x : List ℕ) (p : Place) (r : ℕ) → p.at ≤ length x → Asks R x p r → p.at + r ≤ suc (length x)
asks_inside R x p zero le h = omega (arith, le)
asks_inside R x p (suc r) le h = let last = ((h r).0 (omega arith)).0 in omega (arith, last)

-- the bytes from a place on, where more input follows
module _ (R : Rules) (g a : List ℕ) (p : Place) where
  pub front_bytes : (i : ℕ) → p.at + i ≤ length g → take i (drop p.at (g ++ a)) ≡ take i (drop p.at g)
  front_bytes i fits =
      let n : length (drop p.at g) ≡ length g - p.at = length-drop p.at g in
      ap (take i) (drop-append-le p.at g a (omega arith)) ∙ take-append-le i (drop p.at g) a (omega arith)

  pub front_asks : (i : ℕ) → p.at + i ≤ length g → AsksAt R (g ++ a) p i → AsksAt R g p i
  front_asks i fits (inl e) = inl e
  front_asks i fits (inr h) =
      let line : at_line_start (g ++ a) p.at ≡ at_line_start g p.at = line_start_front g a p.at (omega arith) in
      inr (subst (λ w. R.live p.condition (at_line_start g p.at) w) (front_bytes i fits) (subst (λ line_start. R.live p.condition line_start (take i (drop p.at (g ++ a)))) line h))

  pub asks_front : (i : ℕ) → p.at + i ≤ length g → AsksAt R g p i → AsksAt R (g ++ a) p i
  asks_front i fits (inl e) = inl e
  asks_front i fits (inr h) =
      let line : at_line_start (g ++ a) p.at ≡ at_line_start g p.at = line_start_front g a p.at (omega arith) in
      inr (subst (λ line_start. R.live p.condition line_start (take i (drop p.at (g ++ a)))) (sym line) (subst (λ w. R.live p.condition (at_line_start g p.at) w) (sym (front_bytes i fits)) h))

  pub front_splits : (r : ℕ) → p.at + r ≤ length g → drop p.at (g ++ a) ≡ take r (drop p.at g) ++ (drop r (drop p.at g) ++ a)
  front_splits r fits =
      drop-append-le p.at g a (omega arith) ∙ ap (λ z. z ++ a) (sym (take-append-drop r (drop p.at g))) ∙ append_assoc (take r (drop p.at g)) (drop r (drop p.at g)) a

-- Two inputs that begin with the bytes g: a match that asks for no byte after these is the same turn in both.
module _ (R : Rules) (l : Laws R) (g a b : List ℕ) (p : Place) (r : ℕ) (text_a : IsText (g ++ a)) (text_b : IsText (g ++ b)) (fits : p.at + r ≤ length g) (some : 1 ≤ r) (dead : AsksAt R (g ++ a) p r → ⊥) where
  pub dead_too : AsksAt R (g ++ b) p r → ⊥
  dead_too h = dead (asks_front R g a p r fits (front_asks R g b p r fits h))

  pub same_turn : (s : State) → MatchTurn R (g ++ a) p s → MatchTurn R (g ++ b) p s
  same_turn s h =
      let v : List ℕ = take r (drop p.at g) in
      let ra : List ℕ = drop r (drop p.at g) ++ a in
      let rb : List ℕ = drop r (drop p.at g) ++ b in
      let line_a : at_line_start (g ++ a) p.at ≡ at_line_start g p.at = line_start_front g a p.at (omega arith) in
      let line_b : at_line_start (g ++ b) p.at ≡ at_line_start g p.at = line_start_front g b p.at (omega arith) in
      let line : at_line_start (g ++ a) p.at ≡ at_line_start (g ++ b) p.at = line_a ∙ sym line_b in
      let dead_a : R.live p.condition (at_line_start (g ++ a) p.at) v → ⊥ = λ k. dead (inr (subst (λ w. R.live p.condition (at_line_start (g ++ a) p.at) w) (sym (front_bytes R g a p r fits)) k)) in
      let dead_b : R.live p.condition (at_line_start (g ++ b) p.at) v → ⊥ = λ k. dead_a (subst (λ line_start. R.live p.condition line_start v) (sym line) k) in
      let n : length v ≡ r = length-take-le r (drop p.at g) (rw length-drop (omega arith)) in
      let more_a : IsText ra = is_text_right v ra (subst IsText (front_splits R g a p r fits) (is_text_drop p.at (g ++ a) text_a)) in
      let more_b : IsText rb = is_text_right v rb (subst IsText (front_splits R g b p r fits) (is_text_drop p.at (g ++ b) text_b)) in
      let here : Candidates R p.condition (at_line_start (g ++ a) p.at) v h.matches =
      less_input R l p.condition (at_line_start (g ++ a) p.at) v ra more_a (omega arith) dead_a h.matches
      (subst (λ y. Candidates R p.condition (at_line_start (g ++ a) p.at) y h.matches) (front_splits R g a p r fits) h.all) in
      let there : Candidates R p.condition (at_line_start (g ++ b) p.at) v h.matches = subst (λ line_start. Candidates R p.condition line_start v h.matches) line here in
      let kept : part (g ++ b) p.start p.at ≡ part (g ++ a) p.start p.at = part_front g b p.start p.at (omega arith) ∙ sym (part_front g a p.start p.at (omega arith)) in
      let done : perform_results R (part (g ++ b) p.start p.at) v h.matches [] p.condition p.stack ≡ Some h.outcome =
      ap (λ k. perform_results R k v h.matches [] p.condition p.stack) kept
      ∙ same_outcome R l p.condition (at_line_start (g ++ a) p.at) (part (g ++ a) p.start p.at) v ra h.matches p.condition p.stack here
      ∙ ap (λ y. perform_results R (part (g ++ a) p.start p.at) y h.matches [] p.condition p.stack) (sym (front_splits R g a p r fits))
      ∙ sym (results_are _ _ _ _ _ _ _) ∙ h.performed in
      let len : length (g ++ b) ≡ length g + length b = length-append g b in
      let turn = match_turn R l (g ++ b) p v rb more_b (omega arith) (front_splits R g b p r fits) (omega arith) (inr dead_b) h.matches there h.outcome done in
      subst (MatchTurn R (g ++ b) p) (sym h.leaves) turn

-- Two inputs that begin with the bytes g.
module _ (R : Rules) (l : Laws R) (g a b : List ℕ) (text_a : IsText (g ++ a)) (text_b : IsText (g ++ b)) where
  longer_a : length (g ++ a) ≡ length g + length a
  longer_a = length-append g a

  longer_b : length (g ++ b) ≡ length g + length b
  longer_b = length-append g b

  from_match : (s t u : State) (f h r : ℕ) → h ≤ length g → Asks R (g ++ a) s.place r → h ≡ max f (s.place.at + r) →
      MatchTurn R (g ++ a) s.place u → t ≡ record { written = s.written ++ u.written; place = u.place; ended = u.ended } → NextFrom R (g ++ b) s None t × AsksFrom R (g ++ b) s.place None f h
  from_match s t u f h r le asks is_max turn is_next =
      let fits : s.place.at + r ≤ length g = omega arith in
      let some : 1 ≤ r = asks_some R (g ++ a) s.place r (omega (arith, turn.before_end)) asks in
      let fits_a : s.place.at + r ≤ length (g ++ a) = omega (arith, longer_a) in
      let fits_b : s.place.at + r ≤ length (g ++ b) = omega (arith, longer_b) in
      let dead : AsksAt R (g ++ a) s.place r → ⊥ = asks_no_more R (g ++ a) s.place r fits_a asks in
      let dead_b : AsksAt R (g ++ b) s.place r → ⊥ = dead_too R l g a b s.place r text_a text_b fits some dead in
      let asked : (i : ℕ) → i < r → AsksAt R (g ++ b) s.place i = λ i less. asks_front R g b s.place i (omega arith) (front_asks R g a s.place i (omega arith) ((asks i).0 less).1) in
      ((u, inl (same_turn R l g a b s.place r text_a text_b fits some dead u turn), is_next), (r, asks_here R l (g ++ b) s.place r text_b fits_b some asked dead_b, is_max))

  from_turn : (s t u : State) (f h r : ℕ) → h ≤ length g → Turn R (g ++ a) s.place u → t ≡ record { written = s.written ++ u.written; place = u.place; ended = u.ended } →
      Asks R (g ++ a) s.place r → h ≡ max f (s.place.at + r) → NextFrom R (g ++ b) s None t × AsksFrom R (g ++ b) s.place None f h
  from_turn s t u f h r le (inl turn) is_next asks is_max = from_match s t u f h r le asks is_max turn is_next
  from_turn s t u f h r le (inr turn) is_next asks is_max =
      let some : 1 ≤ r = asks_some R (g ++ a) s.place r (omega (arith, turn.at_end)) asks in
      absurd (omega (arith, turn.at_end, longer_a, le, is_max, some))

  alike_next : (s t : State) (e : Option Ending) (f h : ℕ) → h ≤ length g → NextFrom R (g ++ a) s e t → AsksFrom R (g ++ a) s.place e f h →
      NextFrom R (g ++ b) s e t × AsksFrom R (g ++ b) s.place e f h
  alike_next s t (Some e) f h le next asks = (next, asks)
  alike_next s t None f h le (u, turn, is_next) (r, asks, is_max) = from_turn s t u f h r le turn is_next asks is_max

  grows : (x : List ℕ) (p : Place) (e : Option Ending) (f h : ℕ) → AsksFrom R x p e f h → f ≤ h
  grows x p (Some e) f h asks = omega arith
  grows x p None f h (r, asks, is_max) = omega arith

  -- n turns that ask for nothing after these bytes, and not for the end, are the same in both
  pub same_turns : (n : ℕ) (s : State) (asked : ℕ) → asked ≤ length g → AfterTurns R (g ++ a) n s asked → AfterTurns R (g ++ b) n s asked
  same_turns zero s asked le h = h
  same_turns (suc n) s asked le (before, f, h, next, asks) =
      let less : f ≤ asked = grows (g ++ a) before.place before.ended f asked asks in
      let more = alike_next before s before.ended f asked le next asks in
      (before, f, same_turns n before f (omega arith) h, more.0, more.1)
