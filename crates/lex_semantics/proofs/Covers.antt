-- The place never passes what the matches asked for, so what is held is a part of what was taken.
use Rattle.std.proofs.Common.{◌∙◌, ◌≡◌, ℕ, zero, suc, ◌+◌, ◌-◌, ◌≤◌, ◌<◌, max, min, Bool, true, false, List, [], ◌∷◌, ◌++◌, length, take, drop, ◌⊎◌, inl, inr, Option, Some, None, refl, sym, subst, arith}
use Rattle.std.proofs.lemmas.List.{length-append, length-take-le, length-take, length-drop}
use Rattle.lex_semantics.proofs.ResultsAre.{results_are}
use Rattle.lex_semantics.specs.Text.{IsText, Among, part, at_line_start}
use Rattle.lex_semantics.specs.Rules.{Rules, Full, statements_of}
use Rattle.lex_semantics.specs.Laws.{Laws}
use Rattle.lex_semantics.specs.Candidates.{Candidate, IsCandidate}
use Rattle.lex_semantics.specs.Acting.{Ending, Acting}
use Rattle.lex_semantics.specs.ActionResults.{ActionResult, Done, Again, Over, act_result, settle, perform_results}
use Rattle.lex_semantics.specs.Run.{Place, State, MatchTurn, NextFrom, next_start}
use Rattle.lex_semantics.specs.Scanned.{AfterTurns, Covered}
use Rattle.lex_semantics.specs.Demand.{Asks, AsksFrom}
use Rattle.lex_semantics.proofs.Texts.{is_text_drop, take_longer}
use Rattle.lex_semantics.proofs.Prefix.{asks_some, asks_no_more}
use Rattle.lex_semantics.proofs.Ends.{no_longer, Leaves}

settle_short : (n : ℕ) (w : ActionResult) (f : Acting → Option Acting) (o : Acting) → Leaves (λ b. length b.text ≤ n) w → ((a : Acting) → f a ≡ Some o → length o.text ≤ n) →
    settle w f ≡ Some o → length o.text ≤ n
settle_short n (Done a) f o h later e = let same : record a { ended = None } ≡ o = cc in subst (λ (z : Acting). length z.text ≤ n) same h
settle_short n (Again a) f o h later e = later a e
settle_short n (Over a d) f o h later e = let same : record a { ended = Some d } ≡ o = cc in subst (λ (z : Acting). length z.text ≤ n) same h

-- the text that a match leaves is no longer than what was kept and the longest text
perform_short : (R : Rules) (kept y : List ℕ) (ms : List Candidate) (out : List ℕ) (c : ℕ) (cs : List ℕ) (n : ℕ) (o : Acting) → ((m : Candidate) → Among ms m → m.keep ≤ n) →
    perform_results R kept y ms out c cs ≡ Some o → length o.text ≤ length kept + n
unfolding perform_results
perform_short R kept y [] out c cs n o h e = absurd (no e)
  where
    no : None ≡ Some o → ⊥
    no p = cc
perform_short R kept y (m ∷ ms) out c cs n o h e =
    let a : Acting = record { text = kept ++ take m.keep y; written = out; condition = c; stack = cs; more = false; ended = None } in
    let k : m.keep ≤ n = h m (inl refl) in
    let short : length (take m.keep y) ≤ m.keep = rw length-take (omega arith) in
    let size : length (kept ++ take m.keep y) ≡ length kept + length (take m.keep y) = length-append kept (take m.keep y) in
    settle_short (length kept + n) (act_result (statements_of R m.rule) a) (λ b. perform_results R kept y ms b.written b.condition b.stack) o
    (no_longer (length kept + n) (statements_of R m.rule) a (omega arith))
    (λ b p. perform_short R kept y ms b.written b.condition b.stack n o (λ q i. h q (inr i)) p) e

-- a match is no longer than what it asks for
len_asked : (R : Rules) (l : Laws R) (x : List ℕ) (p : Place) (r : ℕ) (m : Candidate) → IsText x → p.at < length x → Asks R x p r → IsCandidate R p.condition (at_line_start x p.at) (drop p.at x) m →
    (m.len ≤ r) ⊎ (r < m.len) → m.len ≤ r
len_asked R l x p r m text lt asks h (inl le) = le
len_asked R l x p r m text lt asks h (inr more) = from h.1
  where
    n : length (drop p.at x) ≡ length x - p.at
    n = length-drop p.at x

    some : 1 ≤ r
    some = asks_some R x p r (omega (arith, lt)) asks

    size : length (take m.len (drop p.at x)) ≡ m.len
    size = length-take-le m.len (drop p.at x) h.0

    from : Full R p.condition (at_line_start x p.at) (take m.len (drop p.at x)) m.rule m.keep → m.len ≤ r
    from (inr f) = omega (arith, f.1, size, some)
    from (inl f) =
        let longer = take_longer r m.len (drop p.at x) (omega arith) h.0 in
        let live = l.live_from_full p.condition (at_line_start x p.at) (take r (drop p.at x)) longer.0 m.rule m.keep (longer.3 (is_text_drop p.at x text)) (omega (arith, longer.2))
        (subst (λ w. R.full p.condition (at_line_start x p.at) w m.rule m.keep) longer.1 f.1) in
        absurd (asks_no_more R x p r (omega (arith, more, h.0, n, lt)) asks (inr live))

next_ordered : (p : Place) (a : Acting) (o : Option Ending) (b : Bool) → next_start o b p.start (p.start + length a.text) ≤ p.start + length a.text
next_ordered p a (Some e) b = omega arith
next_ordered p a None true = omega arith
next_ordered p a None false = omega arith

match_covers : (R : Rules) (l : Laws R) (x : List ℕ) (p : Place) (r f : ℕ) (t : State) → IsText x → Covered p (min f (length x)) → Asks R x p r → MatchTurn R x p t → Covered t.place (min (max f (p.at + r)) (length x))
match_covers R l x p r f t text h asks turn =
    let line_start : Bool = at_line_start x p.at in
    let kept : length (part x p.start p.at) ≤ p.at - p.start = rw length-take (omega arith) in
    let most : ℕ = min r (length x - p.at) in
    let bound : (m : Candidate) → Among turn.matches m → m.keep ≤ most = λ m i. keep_bound m ((turn.all.members m).0 i) in
    let short = perform_short R (part x p.start p.at) (drop p.at x) turn.matches [] p.condition p.stack most turn.outcome bound (sym (results_are _ _ _ _ _ _ _) ∙ turn.performed) in
    subst (λ (z : State). Covered z.place (min (max f (p.at + r)) (length x))) (sym turn.leaves)
    (record { ordered = next_ordered p turn.outcome turn.outcome.ended turn.outcome.more; covered = omega (arith, h.ordered, h.covered, kept, short, turn.before_end) })
  where
    keep_bound : (m : Candidate) → IsCandidate R p.condition (at_line_start x p.at) (drop p.at x) m → m.keep ≤ min r (length x - p.at)
    keep_bound m k =
        let len : m.len ≤ r = len_asked R l x p r m text turn.before_end asks k (grind arith) in
        let inside : m.len ≤ length x - p.at = omega (arith, k.0, length-drop p.at x) in
        by_full k.1 len inside
      where
        size : length (take m.len (drop p.at x)) ≡ m.len
        size = length-take-le m.len (drop p.at x) k.0

        by_full : Full R p.condition (at_line_start x p.at) (take m.len (drop p.at x)) m.rule m.keep → m.len ≤ r → m.len ≤ length x - p.at → m.keep ≤ min r (length x - p.at)
        by_full (inl g) len inside = omega (arith, l.inside p.condition (at_line_start x p.at) (take m.len (drop p.at x)) m.rule m.keep g.1, size, len, inside)
        by_full (inr g) len inside = omega (arith, g.1, g.2, size, len, inside)

next_covers : (R : Rules) (l : Laws R) (x : List ℕ) (s t : State) (e : Option Ending) (f g : ℕ) → IsText x → Covered s.place (min f (length x)) → NextFrom R x s e t → AsksFrom R x s.place e f g → Covered t.place (min g (length x))
next_covers R l x s t (Some e) f g text h next asks = subst (λ n. Covered t.place (min n (length x))) (sym asks) (subst (λ (z : State). Covered z.place (min f (length x))) (sym next) h)
next_covers R l x s t None f g text h (u, inl turn, is) (r, asks, is_max) =
    subst (λ n. Covered t.place (min n (length x))) (sym is_max) (subst (λ (z : State). Covered z.place (min (max f (s.place.at + r)) (length x))) (sym is) (match_covers R l x s.place r f u text h asks turn))
next_covers R l x s t None f g text h (u, inr turn, is) (r, asks, is_max) =
    subst (λ (z : State). Covered z.place (min g (length x))) (sym is)
    (subst (λ (z : State). Covered z.place (min g (length x))) (sym turn.leaves) (record { ordered = omega arith; covered = omega (arith, h.covered, is_max) }))

-- After n turns the text starts at or before the place, and the place is not past what the turns asked for.
pub turns_cover : (R : Rules) (l : Laws R) (x : List ℕ) (n : ℕ) (s : State) (asked : ℕ) → IsText x → AfterTurns R x n s asked → Covered s.place (min asked (length x))
turns_cover R l x zero s asked text h = subst (λ (z : State). Covered z.place (min asked (length x))) (sym h.0) (record { ordered = omega arith; covered = omega arith })
turns_cover R l x (suc n) s asked text (b, f, h, next, asks) = next_covers R l x b s b.ended f asked text (turns_cover R l x n b f text h) next asks
