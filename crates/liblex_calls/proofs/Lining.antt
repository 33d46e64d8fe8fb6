-- Where tokens stand.
use Rattle.std.proofs.Common.{◌≡◌, ℕ, zero, suc, ◌+◌, ◌-◌, ◌%◌, ◌^◌, ◌<◌, ◌≤◌, inl, inr, ◌⊎◌, Bool, true, false, List, [], ◌∷◌, ◌++◌, length, take, drop, Option, Some, None, refl, sym, ap, subst, ◌∙◌, append_assoc, length-append, arith}
use Rattle.std.specs.Prelude.{if◌then◌else◌, ◌&&◌, is_none, cond, not, reverse, ◌==◌}
use Rattle.std.specs.List.{prefix_len}
use Rattle.std.proofs.lemmas.List.{take-append-le, take-append-drop, take-take, drop-take, drop-drop, length-take-le, length-take, length-drop, reverse-append, length-reverse}
use Rattle.std.proofs.lemmas.List.Sums.{fold-append, count_by-le-length, prefix_len-le-length}
use Rattle.std.proofs.lemmas.Bool.{ne_eqb}
use Rattle.lex_semantics.specs.Text.{BeginsWith, part, at_line_start}
use Rattle.lex_semantics.specs.Rules.{Rules, statements_of}
use Rattle.lex_semantics.specs.Candidates.{Candidate}
use Rattle.lex_semantics.specs.Acting.{Acting, Ending}
use Rattle.lex_semantics.specs.ActionResults.{ActionResult, Done, Again, Over, act_result, settle, perform_results}
use Rattle.lex_semantics.specs.Run.{Place, State, Turns, NextFrom, MatchTurn, EndTurn, next_place}
use Rattle.lex_semantics.specs.Demand.{Consistent}
use Rattle.lex_semantics.proofs.ResultsAre.{results_are}
use Rattle.lex_semantics.proofs.Once.{one_candidates, one_state, some_inj}
use Rattle.lexscan.specs.declared.token.Token.{Token}
use Rattle.lexscan.specs.Matches.{CarriesOut}
use Rattle.lexscan.specs.Tokens.{IsToken, Appends, TokensOf}
use Rattle.liblex_calls.specs.Lines.{newline_count, after_newline, IsSpotOf, IsAfter, last_start, last_end, Follows, Placed, Counted}
use Rattle.liblex_calls.specs.declared.lines.Mark.{Mark}
use Rattle.liblex_calls.specs.declared.lines.Lines.{Lines}
use Rattle.liblex_calls.specs.declared.lines.Spot.{Spot}

-- A text with one byte more.
newlines_more : (w : List ℕ) (c : ℕ) → newline_count (w ++ c ∷ []) ≡ newline_count w + cond (c == 10) 1 0
newlines_more w c = fold-append (λ a x. a + cond (x == 10) 1 0) 0 w (c ∷ [])

after_more : (w : List ℕ) (c : ℕ) → after_newline (w ++ c ∷ []) ≡ cond (not (c == 10)) (1 + after_newline w) 0
after_more w c = ap (prefix_len (λ x. not (x == 10))) (reverse-append w (c ∷ []))

few_newlines : (w : List ℕ) → newline_count w ≤ length w
few_newlines w = count_by-le-length (λ c. c == 10) w

few_after : (w : List ℕ) → after_newline w ≤ length w
few_after w = let le = prefix_len-le-length (λ c. not (c == 10)) (reverse w) in omega (arith, le, length-reverse w)

-- What matches do does not change by more of them behind one that is not rejected.
goes_settled : (w : ActionResult) (f g : Acting → Option Acting) (o : Acting) → ((a : Acting) → f a ≡ Some o → g a ≡ Some o) → settle w f ≡ Some o → settle w g ≡ Some o
goes_settled (Done a) f g o h is = is
goes_settled (Again a) f g o h is = h a is
goes_settled (Over a e) f g o h is = is

more_matches : (R : Rules) (kept y : List ℕ) (ms left : List Candidate) (out : List ℕ) (c : ℕ) (cs : List ℕ) (o : Acting) → perform_results R kept y ms out c cs ≡ Some o → perform_results R kept y (ms ++ left) out c cs ≡ Some o
unfolding perform_results
more_matches R kept y [] left out c cs o is = absurd (no is)
  where
    no : None ≡ Some o → ⊥
    no e = cc
more_matches R kept y (m ∷ ms) left out c cs o is =
    let begin : Acting = record { text = kept ++ take m.keep y; written = out; condition = c; stack = cs; more = false; ended = None } in
    goes_settled (act_result (statements_of R m.rule) begin) (λ a. perform_results R kept y ms a.written a.condition a.stack) (λ a. perform_results R kept y (ms ++ left) a.written a.condition a.stack) o
    (λ a. more_matches R kept y ms left a.written a.condition a.stack o) is

-- A turn comes to the outcome of the match that it carries out.
one_outcome : (R : Rules) (x : List ℕ) (p : Place) (s : State) (m : Candidate) (o : Acting) (turn : MatchTurn R x p s) → CarriesOut R x p m o → turn.outcome ≡ o
one_outcome R x p s m o turn k =
    let kept : List ℕ = part x p.start p.at in
    let y : List ℕ = drop p.at x in
    let all : turn.matches ≡ k.passed ++ m ∷ k.left = one_candidates R p.condition (at_line_start x p.at) y turn.matches (k.passed ++ m ∷ k.left) turn.all k.all in
    let front : perform_results R kept y (k.passed ++ m ∷ []) [] p.condition p.stack ≡ Some o = sym (results_are R kept y (k.passed ++ m ∷ []) [] p.condition p.stack) ∙ k.carried in
    let whole : perform_results R kept y ((k.passed ++ m ∷ []) ++ k.left) [] p.condition p.stack ≡ Some o = more_matches R kept y (k.passed ++ m ∷ []) k.left [] p.condition p.stack o front in
    let same : turn.matches ≡ (k.passed ++ m ∷ []) ++ k.left = all ∙ sym (append_assoc k.passed (m ∷ []) k.left) in
    some_inj turn.outcome o (sym turn.performed ∙ results_are R kept y turn.matches [] p.condition p.stack ∙ ap (λ l. perform_results R kept y l [] p.condition p.stack) same ∙ whole)

-- The next text begins where a text begins or ends.
either_start : (b : Bool) (start end : ℕ) → ((if b then start else end) ≡ end) ⊎ ((if b then start else end) ≡ start)
either_start true start end = inr refl
either_start false start end = inl refl

start_after : (R : Rules) (x : List ℕ) (p : Place) (s u : State) (t : Token) → IsToken R x p t → MatchTurn R x p u → s.place ≡ u.place → (s.place.start ≡ t.end) ⊎ (s.place.start ≡ t.start)
start_after R x p s u t is turn place =
    let o : turn.outcome ≡ is.outcome = one_outcome R x p u is.taken is.outcome turn is.carries in
    let start : s.place.start ≡ (next_place p is.outcome).start = ap (λ (q : Place). q.start) (place ∙ ap (λ (w : State). w.place) turn.leaves ∙ ap (next_place p) o) in
    elim (either_start (is_none is.outcome.ended && is.outcome.more) p.start (p.start + length is.outcome.text)) [
      | inl e ↦ inl (start ∙ e ∙ sym is.end_is)
      | inr e ↦ inr (start ∙ e ∙ sym is.start_is)
    ]

-- lists with one token more
last_inj : (t u : Token) (ts us : List Token) → ts ++ t ∷ [] ≡ us ++ u ∷ [] → (ts ≡ us) × (t ≡ u)
last_inj t u [] [] e = (refl, cc)
last_inj t u [] (b ∷ []) e = absurd (let no = ap length e in omega (arith, no))
last_inj t u [] (b ∷ c ∷ us) e = absurd (let no = ap length e in omega (arith, no))
last_inj t u (a ∷ []) [] e = absurd (let no = ap length e in omega (arith, no))
last_inj t u (a ∷ b ∷ ts) [] e = absurd (let no = ap length e in omega (arith, no))
last_inj t u (a ∷ ts) (b ∷ us) e =
    let heads : a ≡ b = cc in
    let rest : ts ++ t ∷ [] ≡ us ++ u ∷ [] = cc in
    let ih = last_inj t u ts us rest in
    (ap (λ l. a ∷ l) ih.0 ∙ ap (λ h. h ∷ us) heads, ih.1)

none_left : (t : Token) (ts : List Token) → ts ++ t ∷ [] ≡ [] → ⊥
none_left t [] e = cc
none_left t (a ∷ ts) e = cc

pub last_start_is : (ts : List Token) (t : Token) → last_start (ts ++ t ∷ []) ≡ t.start
last_start_is ts t = fold-append (λ (at : ℕ) (u : Token). u.start) 0 ts (t ∷ [])

pub last_end_is : (ts : List Token) (t : Token) → last_end (ts ++ t ∷ []) ≡ t.end
last_end_is ts t = fold-append (λ (at : ℕ) (u : Token). u.end) 0 ts (t ∷ [])

-- a scan that goes on was not at its end
not_over : (e : Ending) → Some e ≡ None → ⊥
not_over e h = cc

-- The place of the next text, by the tokens so far.
stands : (R : Rules) (x : List ℕ) (n : ℕ) (us : List Token) (s : State) → TokensOf R x n us → Turns R x n s → s.ended ≡ None → Follows us s.place.start
stands R x zero us s none first going = inl (ap (λ (w : State). w.place.start) first ∙ sym (ap last_end none))
stands R x (suc n) us s (p, ts, turns, pending, before, appends) (q, again, next) going =
    let same : q ≡ p = one_state R x n q p again turns in
    let from : NextFrom R x p p.ended s = subst (λ (w : State). NextFrom R x w w.ended s) same next in
    by (subst (λ e. NextFrom R x p e s) pending from) appends
  where
    over : (t : State) → EndTurn R x p.place t → s ≡ record t { written = p.written ++ t.written } → ⊥
    over t turn is = not_over _ (sym (ap (λ (w : State). w.ended) (is ∙ ap (λ (w : State). record w { written = p.written ++ w.written }) turn.leaves)) ∙ going)

    by : NextFrom R x p None s → Appends R x p.place ts us → Follows us s.place.start
    by (t, inr turn, is) a = absurd (over t turn is)
    by (t, inl turn, is) (inr (at_end, none)) = absurd (omega (arith, turn.before_end, at_end))
    by (t, inl turn, is) (inl (u, token, app)) = elim (start_after R x p.place s t u token turn (ap (λ (w : State). w.place) is)) [
      | inl e ↦ inl (e ∙ sym (ap last_end app ∙ last_end_is ts u))
      | inr e ↦ inr (e ∙ sym (ap last_start app ∙ last_start_is ts u))
    ]

-- A token begins where the one before it ends or, after yymore, where that begins. Its text is that part of the input.
pub follows : (R : Rules) (x : List ℕ) (n : ℕ) (us : List Token) (t : Token) → TokensOf R x n (us ++ t ∷ []) → Follows us t.start × (text : List ℕ) × (part x t.start t.end ≡ text) × (t.end ≡ t.start + length text)
follows R x zero us t h = absurd (none_left t us h)
follows R x (suc n) us t (s, ts, turns, going, before, inr (at_end, same)) = follows R x n us t (subst (TokensOf R x n) (sym same) before)
follows R x (suc n) us t (s, ts, turns, going, before, inl (u, token, app)) =
    let both = last_inj t u us ts app in
    let is : IsToken R x s.place t = subst (IsToken R x s.place) (sym both.1) token in
    let at = stands R x n ts s before turns going in (
      subst (λ (l : List Token). Follows l t.start) (sym both.0) (subst (Follows ts) (sym is.start_is) at),
      is.outcome.text,
      is.text_is,
      is.end_is ∙ ap (λ a. a + length is.outcome.text) (sym is.start_is),
    )

-- A part of an input with what comes before it.
pub front_part : (x : List ℕ) (i j : ℕ) → i ≤ j → take i x ++ part x i j ≡ take j x
front_part x i j le =
    let sum : i + (j - i) ≡ j = omega arith in
    let rest : drop i (take j x) ≡ part x i j = ap (λ k. drop i (take k x)) (sym sum) ∙ drop-take i (j - i) x in
    ap (λ l. l ++ part x i j) (sym (take-take i j x le)) ∙ ap (λ l. take i (take j x) ++ l) (sym rest) ∙ take-append-drop i (take j x)

-- what is left of a part behind some of its bytes
pub part_left : (x : List ℕ) (i k j : ℕ) → i ≤ k → k ≤ j → drop (k - i) (part x i j) ≡ part x k j
part_left x i k j low high =
    let sizes : j - i ≡ (k - i) + (j - k) = omega arith in
    let at : i + (k - i) ≡ k = omega arith in
    ap (λ n. drop (k - i) (take n (drop i x))) sizes ∙ drop-take (k - i) (j - k) (drop i x) ∙ ap (take (j - k)) (drop-drop (k - i) i x ∙ ap (λ n. drop n x) at)

part_size : (x : List ℕ) (i j : ℕ) → i ≤ j → j ≤ length x → length (part x i j) ≡ j - i
part_size x i j low high = let rest = length-drop i x in length-take-le (j - i) (drop i x) (omega (arith, rest, low, high))

-- a place that was counted is in the text
pub inside : (x : List ℕ) (m : Mark) → IsAfter (take m.at x) m → m.at ≤ length x
inside x m h = let size = h.at_is ∙ length-take m.at x in omega (arith, size)

-- The place after a part of the input, from one that was counted.
pub passed : (x : List ℕ) (m n : Mark) (bytes : List ℕ) (to : ℕ) → IsAfter (take m.at x) m → m.at ≤ to → to ≤ length x → length x < 2 ^ 64 → bytes ≡ part x m.at to →
    ((before : List ℕ) → IsAfter before m → length before + length bytes < 2 ^ 64 → IsAfter (before ++ bytes) n) → (n.at ≡ to) × IsAfter (take n.at x) n
passed x m n bytes to h low high few is count =
    let size : length bytes ≡ to - m.at = ap length is ∙ part_size x m.at to low high in
    let front : length (take m.at x) ≡ m.at = sym h.at_is in
    let after : IsAfter (take m.at x ++ bytes) n = count (take m.at x) h (omega (arith, size, front)) in
    let whole : take m.at x ++ bytes ≡ take to x = ap (λ l. take m.at x ++ l) is ∙ front_part x m.at to low in
    let here : n.at ≡ to = after.at_is ∙ ap length whole ∙ length-take-le to x high in
    (here, subst (λ w. IsAfter w n) (whole ∙ ap (λ k. take k x) (sym here)) after)

-- What was counted is so when more is fed.
still_after : (x more : List ℕ) (m : Mark) → IsAfter (take m.at x) m → IsAfter (take m.at (x ++ more)) m
still_after x more m h = subst (λ w. IsAfter w m) (sym (take-append-le m.at x more (inside x m h))) h

pub counted_more : (lines : Bool) (fed piece : List ℕ) (tokens : List Token) (l : Lines) → Counted lines fed tokens l → Counted lines (fed ++ piece) tokens l
counted_more true fed piece tokens l h = record {
  start = still_after fed piece l.start h.start;
  end = still_after fed piece l.end h.end;
  start_is = h.start_is;
  end_is = h.end_is;
  order = h.order;
}
counted_more false fed piece tokens l h = tt

-- Where a token stands in the bytes that were fed, it stands in every input that goes on so.
pub stands_so : (lines : Bool) (fed : List ℕ) (told : Bool) (x : List ℕ) (tokens : List Token) (t : Token) (l : Lines) (spot : Spot) → Counted lines fed (tokens ++ t ∷ []) l → Consistent fed told x → IsSpotOf lines fed t.start spot → IsSpotOf lines x t.start spot
stands_so true fed told x tokens t l spot h c at =
    let low = inside fed l.start h.start in
    let is : l.start.at ≡ t.start = h.start_is ∙ last_start_is tokens t in
    let same : take t.start x ≡ take t.start fed = front_of (omega (arith, low, is)) told c.1 in
    (at.0 ∙ ap (λ w. 1 + newline_count w) (sym same), at.1 ∙ ap (λ w. 1 + after_newline w) (sym same))
  where
    front_of : t.start ≤ length fed → (b : Bool) → cond b (x ≡ fed) (BeginsWith x fed) → take t.start x ≡ take t.start fed
    front_of le true is = ap (take t.start) is
    front_of le false (rest, is) = ap (take t.start) is ∙ take-append-le t.start fed rest le
stands_so false fed told x tokens t l spot h c at = at

-- A token begins among the bytes that were fed.
pub begins_inside : (fed : List ℕ) (tokens : List Token) (start : ℕ) (l : Lines) → Placed fed tokens l → Follows tokens start → start ≤ length fed
begins_inside fed tokens start l h (inl is) = let low = inside fed l.end h.end in omega (arith, low, is, h.end_is)
begins_inside fed tokens start l h (inr is) = let low = inside fed l.start h.start in omega (arith, low, is, h.start_is)

-- It ends there too, where its text is that part of them.
pub ends_inside : (fed text : List ℕ) (start end : ℕ) → part fed start end ≡ text → end ≡ start + length text → start ≤ length fed → end ≤ length fed
ends_inside fed text start end is size le =
    let all = ap length is in
    let some = length-take (end - start) (drop start fed) in
    let rest = length-drop start fed in
    omega (arith, all, some, rest, size, le)

-- The place after a byte that is no newline.
pub after_other : (before : List ℕ) (m : Mark) (c : ℕ) → IsAfter before m → length before + 1 < 2 ^ 64 → (c ≡ 10 → ⊥) → IsAfter (before ++ c ∷ []) (record { at = (m.at + 1) % 2 ^ 64; newlines = m.newlines; after = (m.after + 1) % 2 ^ 64 })
after_other before m c h few not_newline =
    let other : (c == 10) ≡ false = ne_eqb c 10 not_newline in
    let size : length (before ++ c ∷ []) ≡ length before + 1 = length-append before (c ∷ []) in
    let le = few_after before in
    let none : newline_count (before ++ c ∷ []) ≡ newline_count before + 0 = newlines_more before c ∙ ap (λ b. newline_count before + cond b 1 0) other in
    let one : after_newline (before ++ c ∷ []) ≡ 1 + after_newline before = after_more before c ∙ ap (λ b. cond (not b) (1 + after_newline before) 0) other in
    record {
      at_is = omega (arith, h.at_is, few, size);
      newlines_are = omega (arith, h.newlines_are, none);
      after_is = omega (arith, h.after_is, few, le, one);
    }

-- The place where a token begins is one of those that are kept.
pub record Chosen (fed : List ℕ) (start : ℕ) (l m : Lines) : Type 0 where
  pub counted : IsAfter (take m.start.at fed) m.start
  pub at_is : m.start.at ≡ start
  pub same_end : m.end ≡ l.end
  pub order : start ≤ l.end.at

pub chosen_end : (fed : List ℕ) (tokens : List Token) (start : ℕ) (l m : Lines) → Placed fed tokens l → start ≡ l.end.at → m ≡ record l { start = l.end } → Chosen fed start l m
chosen_end fed tokens start l m h is same = record {
  counted = subst (λ (k : Lines). IsAfter (take k.start.at fed) k.start) (sym same) h.end;
  at_is = ap (λ (k : Lines). k.start.at) same ∙ sym is;
  same_end = ap (λ (k : Lines). k.end) same;
  order = omega (arith, is);
}

pub chosen_start : (fed : List ℕ) (tokens : List Token) (start : ℕ) (l m : Lines) → Placed fed tokens l → Follows tokens start → (start ≡ l.end.at → ⊥) → m ≡ l → Chosen fed start l m
chosen_start fed tokens start l m h (inl is) not same = absurd (not (is ∙ sym h.end_is))
chosen_start fed tokens start l m h (inr is) not same = record {
  counted = subst (λ (k : Lines). IsAfter (take k.start.at fed) k.start) (sym same) h.start;
  at_is = ap (λ (k : Lines). k.start.at) same ∙ h.start_is ∙ sym is;
  same_end = ap (λ (k : Lines). k.end) same;
  order = let low = h.order in omega (arith, low, is, h.start_is);
}

-- A token that begins where it was chosen, and ends at a place that was counted.
pub moved_to : (fed : List ℕ) (tokens : List Token) (t : Token) (l m : Lines) (n : Mark) (counts : Bool) → Chosen fed t.start l m → t.start ≤ t.end → (n.at ≡ t.end) × IsAfter (take n.at fed) n →
    Placed fed (tokens ++ t ∷ []) (record { counts = counts; start = m.start; end = n }) × (m.start.at ≡ t.start)
moved_to fed tokens t l m n counts chosen order (at, after) = (
  record {
    start = chosen.counted;
    end = after;
    start_is = chosen.at_is ∙ sym (last_start_is tokens t);
    end_is = at ∙ sym (last_end_is tokens t);
    order = let begins = chosen.at_is in omega (arith, begins, at, order);
  },
  chosen.at_is,
)

-- What is told of where a token begins.
pub spot_is : (fed : List ℕ) (tokens : List Token) (start : ℕ) (l : Lines) → Placed fed tokens l → l.start.at ≡ start → length fed + 1 < 2 ^ 64 →
    IsSpotOf true fed start (record { line = (l.start.newlines + 1) % 2 ^ 64; column = (l.start.after + 1) % 2 ^ 64 })
spot_is fed tokens start l h is few =
    let w : List ℕ = take l.start.at fed in
    let size = inside fed l.start h.start in
    let at = h.start.at_is in
    let lines = few_newlines w in
    let bytes = few_after w in
    let same : w ≡ take start fed = ap (λ k. take k fed) is in (
      omega (arith, few, size, at, lines, h.start.newlines_are) ∙ ap (λ v. 1 + newline_count v) same,
      omega (arith, few, size, at, bytes, h.start.after_is) ∙ ap (λ v. 1 + after_newline v) same,
    )
