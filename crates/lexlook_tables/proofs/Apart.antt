-- A scan of two pieces, the first of which ends with a newline.
use Rattle.std.proofs.Common.{◌≡◌, ℕ, zero, suc, ◌+◌, ◌-◌, ◌≤◌, ◌<◌, Bool, true, false, List, [], ◌∷◌, ◌++◌, length, take, drop, ◌⊎◌, inl, inr, Option, Some, None, refl, sym, ◌∙◌, ap, subst, arith}
use Rattle.std.proofs.lemmas.List.{length-append, append-nil, drop-append-le, length-drop, take_all}
use Rattle.std.proofs.lemmas.Bool.{cases_lt, eq-eqb}
use Rattle.lex_semantics.proofs.Once.{one_turn, run_by}
use Rattle.lex_semantics.proofs.ResultsAre.{results_are}
use Rattle.lex_semantics.specs.Text.{IsText, Among, byte_at, at_line_start}
use Rattle.lex_semantics.specs.Candidates.{Candidates}
use Rattle.lex_semantics.specs.Acting.{Ending, Status}
use Rattle.lex_semantics.specs.ActionResults.{perform_results}
use Rattle.lex_semantics.specs.Run.{Place, State, MatchTurn, EndTurn, NextFrom, Turns, Run, first_place, first_state}
use Rattle.lex_semantics.specs.Rules.{Rules}
use Rattle.lex_semantics.specs.Machine.{Machine, walk, state_after, rules_of_machine}
use Rattle.lex_semantics.specs.MachineLaws.{MachineLaws}
use Rattle.lex_semantics.proofs.MachineLaws.{machine_laws, walk-append}
use Rattle.lex_semantics.proofs.Prefix.{match_turn}
use Rattle.lex_semantics.proofs.Texts.{is_text_append, is_text_take, is_text_drop, take_past, line_start_front, part_front}
use Rattle.lexlook_tables.specs.Lines.{ScansApart, after_line, Discards, DiscardsLine, KeepsLines}
use Rattle.lexlook_tables.proofs.Bytes.{byte_at_past}
use Rattle.lexlook_tables.proofs.Homes as H
use Rattle.lexlook_tables.proofs.Homes.{Home}
use Rattle.lexlook_tables.proofs.Shifts as S
use Rattle.lexlook_tables.proofs.Passing as P
use Rattle.lexlook_tables.proofs.Passing.{passed}

-- a scan that has ended has ended
no_end : (s : State) (e : Ending) → s.ended ≡ Some e → s.ended ≡ None → ⊥
no_end s e is none = differ (sym is ∙ none)
  where
    differ : Some e ≡ None → ⊥
    differ f = cc

-- after a turn that did not end the scan the state before it had not ended
not_ended : (s : State) → (s.ended ≡ None) ⊎ ((e : Ending) × (s.ended ≡ Some e))
not_ended s = from s.ended refl
  where
    from : (o : Option Ending) → s.ended ≡ o → (s.ended ≡ None) ⊎ ((e : Ending) × (s.ended ≡ Some e))
    from None e = inl e
    from (Some d) e = inr (d, e)

module _ (M : Machine) (laws : MachineLaws M) (keeps : KeepsLines M) (x y : List ℕ) (x_text : IsText x) (y_text : IsText y) where
  abbrev R : Rules
  R = rules_of_machine M

  abbrev g : List ℕ
  g = x ++ 10 ∷ []

  g_text : IsText g
  g_text = is_text_append x (10 ∷ []) x_text (omega arith, tt)

  g_size : length g ≡ suc (length x)
  g_size = (let e = length-append x (10 ∷ []) in omega (arith, e))

  last_byte : byte_at g (length x) ≡ 10
  last_byte = (let e : length x + 0 ≡ length x = omega arith in ap (byte_at g) (sym e) ∙ byte_at_past x (10 ∷ []) 0)

  first_home : Home M g first_place
  first_home = record { ordered = omega arith; fits = omega arith; condition = omega (arith, laws.some_condition); stack = refl; inner = λ i some lt ten. omega (arith, lt); line = λ at. refl }

  -- how the first turn over the second piece may end: with a match that is discarded
  abbrev skipped : ℕ → State
  skipped e = passed first_place e

  abbrev seam : List ℕ → State → State
  seam v s = S.behind R g y (length x) g_size last_byte v s

  -- at a place from where no match crosses the seam, or from where each one is discarded that does
  module _ (p : Place) (t : State) (h : Home M g p) (m : MatchTurn R g p t) where
    line : at_line_start (g ++ y) p.at ≡ at_line_start g p.at
    line = line_start_front g y p.at h.fits

    abbrev own_line : Bool
    own_line = at_line_start g p.at

    abbrev end_state : ℕ
    end_state = after_line M p.condition own_line (drop p.at x)

    abbrev n : ℕ
    n = length (drop p.at g)

    n_is : n ≡ length g - p.at
    n_is = length-drop p.at g

    some : 1 ≤ n
    some = omega (arith, n_is, m.before_end)

    own : drop p.at g ≡ drop p.at x ++ 10 ∷ []
    own = drop-append-le p.at x (10 ∷ []) (omega (arith, m.before_end, g_size))

    joined : drop p.at (g ++ y) ≡ drop p.at g ++ y
    joined = drop-append-le p.at g y h.fits

    in_both : p.at < length (g ++ y)
    in_both = omega (arith, length-append g y, m.before_end)

    stops : M.goes_on end_state ≡ false → MatchTurn R (g ++ y) p t
    stops stop = subst (MatchTurn R (g ++ y) p) (sym m.leaves)
        (match_turn R (machine_laws M laws) (g ++ y) p (drop p.at g) y y_text in_both joined some
        (inr (λ live. no_true (sym stopped ∙ live))) m.matches (subst (λ z. Candidates R p.condition z (drop p.at g) m.matches) (sym line) m.all) m.outcome
        (ap (λ w. perform_results R w (drop p.at g) m.matches [] p.condition p.stack) (part_front g y p.start p.at h.fits) ∙ sym (results_are _ _ _ _ _ _ _) ∙ m.performed))
      where
        no_true : false ≡ true → ⊥
        no_true e = cc

        stopped : M.goes_on (state_after M p.condition (at_line_start (g ++ y) p.at) (drop p.at g)) ≡ false
        stopped = subst (λ z. M.goes_on (state_after M p.condition z (drop p.at g)) ≡ false) (sym line) (subst (λ w. M.goes_on (state_after M p.condition own_line w) ≡ false) (sym own) stop)

    -- The turn over the first piece leads to its end, and writes nothing. The one over both leads as far as the first one over the second piece does.
    record Crosses : Type 0 where
      at_end : t.place.at ≡ length g
      silent : t.written ≡ []
      bytes : ℕ
      first : MatchTurn R y first_place (skipped bytes)
      turn : MatchTurn R (g ++ y) p (seam [] (skipped bytes))

    module _ (d : DiscardsLine M p.condition end_state) where
      abbrev own_state : ℕ → ℕ
      own_state = P.state_at M laws g p h.ordered m.before_end

      at_seam : own_state n ≡ end_state
      at_seam = ap (state_after M p.condition own_line) (take_all n (drop p.at g) (omega arith) ∙ own)

      own_discards : (k j : ℕ) → n ≤ k → k ≤ n → Among (M.accepts (own_state k)) j → Discards M j
      own_discards k j le ge at = d.discards [] j tt (subst (λ z. Among (M.accepts z) j) (ap own_state (let e : k ≡ n = omega (arith, le, ge) in e) ∙ at_seam) at)

      own_pass : P.Passes M laws g p h.ordered m.before_end n
      own_pass = P.passes M laws g p h.ordered m.before_end n d.taken.0 some (omega arith) (subst (λ z. Among (M.accepts z) d.taken.0) (sym at_seam) d.taken.1) own_discards

      own_len : own_pass.len ≡ n
      own_len = omega (arith, own_pass.more, own_pass.fits)

      is : t ≡ passed p n
      is = one_turn R g p t (passed p n) (inl m) (inl (subst (λ z. MatchTurn R g p (passed p z)) own_len own_pass.turn))

      abbrev both_state : ℕ → ℕ
      both_state = P.state_at M laws (g ++ y) p h.ordered in_both

      both_size : length (drop p.at (g ++ y)) ≡ n + length y
      both_size = ap length joined ∙ length-append (drop p.at g) y

      -- behind the seam
      past_seam : (e : ℕ) → both_state (n + e) ≡ walk M end_state (take e y)
      past_seam e =
          ap (λ w. state_after M p.condition (at_line_start (g ++ y) p.at) (take (n + e) w)) joined
          ∙ ap (λ w. state_after M p.condition (at_line_start (g ++ y) p.at) w) (take_past (drop p.at g) y e)
          ∙ ap (λ z. state_after M p.condition z (drop p.at g ++ take e y)) line
          ∙ walk-append M (M.start p.condition own_line) (drop p.at g) (take e y)
          ∙ ap (λ w. walk M (state_after M p.condition own_line w) (take e y)) own

      both_discards : (k j : ℕ) → n ≤ k → k ≤ length (drop p.at (g ++ y)) → Among (M.accepts (both_state k)) j → Discards M j
      both_discards k j le ge at = (let e : k ≡ n + (k - n) = omega (arith, le) in
          d.discards (take (k - n) y) j (is_text_take (k - n) y y_text) (subst (λ z. Among (M.accepts z) j) (ap both_state e ∙ past_seam (k - n)) at))

      both_pass : P.Passes M laws (g ++ y) p h.ordered in_both n
      both_pass = P.passes M laws (g ++ y) p h.ordered in_both n d.taken.0 some (omega (arith, both_size))
          (subst (λ z. Among (M.accepts z) d.taken.0) (sym (ap both_state (let e : n ≡ n + 0 = omega arith in e) ∙ past_seam 0)) d.taken.1) both_discards

      -- a match that goes on there goes on as one from the start of the second piece
      again : (z : List ℕ) → IsText z → (e j : ℕ) → 1 ≤ e → Among (M.accepts (walk M end_state (take e z))) j → 1 ≤ length z → (k : ℕ) → 1 ≤ k → walk M end_state (take k z) ≡ state_after M 0 true (take k z)
      again [] text e j e_some at z_some k k_some = absurd (omega (arith, z_some))
      again (b ∷ z) text zero j e_some at z_some k k_some = absurd (omega (arith, e_some))
      again (b ∷ z) text (suc e) j e_some at z_some zero k_some = absurd (omega (arith, k_some))
      again (b ∷ z) text (suc e) j e_some at z_some (suc k) k_some = ap (λ s. walk M s (take k z)) (d.again b text.0 (take e z) j (is_text_take e z text.1) at)

      crosses : (e : ℕ) → both_pass.len ≡ n + e → 1 ≤ e → Crosses
      crosses e len e_some = record {
        at_end = ap (λ (s : State). s.place.at) is ∙ (let k : p.at + n ≡ length g = omega (arith, n_is, m.before_end) in k);
        silent = ap (λ (s : State). s.written) is;
        bytes = e;
        first = subst (λ z. MatchTurn R y first_place (skipped z)) as_long second.turn;
        turn = subst (MatchTurn R (g ++ y) p) leads both_pass.turn;
      }
        where
          in_y : e ≤ length y
          in_y = omega (arith, len, both_pass.fits, both_size)

          accepted : Among (M.accepts (walk M end_state (take e y))) both_pass.rule
          accepted = subst (λ z. Among (M.accepts z) both_pass.rule) (ap both_state len ∙ past_seam e) both_pass.accepted

          same : (k : ℕ) → 1 ≤ k → walk M end_state (take k y) ≡ state_after M 0 true (take k y)
          same = again y y_text e both_pass.rule e_some accepted (omega (arith, in_y, e_some))

          second : P.Passes M laws y first_place (omega arith) (omega (arith, in_y, e_some)) e
          second = P.passes M laws y first_place (omega arith) (omega (arith, in_y, e_some)) e both_pass.rule e_some in_y (subst (λ z. Among (M.accepts z) both_pass.rule) (same e e_some) accepted)
              (λ k j le ge at. d.discards (take k y) j (is_text_take k y y_text) (subst (λ z. Among (M.accepts z) j) (sym (same k (omega (arith, le, e_some)))) at))

          no_longer : (second.len ≤ e) ⊎ (e < second.len) → second.len ≡ e
          no_longer (inl le) = omega (arith, le, second.more)
          no_longer (inr less) = absurd (both_pass.longest (n + second.len) second.rule (omega (arith, len, less)) (omega (arith, both_size, second.fits))
              (subst (λ z. Among (M.accepts z) second.rule) (sym (past_seam second.len ∙ same second.len (omega (arith, less)))) second.accepted))

          as_long : second.len ≡ e
          as_long = no_longer (elim (cases_lt e second.len) [ inl less ↦ inr less | inr le ↦ inl le ])

          leads : passed p both_pass.len ≡ seam [] (skipped e)
          leads =
              (let k : p.at + both_pass.len ≡ length g + (0 + e) = omega (arith, len, n_is, m.before_end) in ap (λ i. record { written = []; place = record { start = i; at = i; condition = p.condition; stack = p.stack }; ended = None }) k)
              ∙ ap (λ c. record { written = []; place = record { start = length g + (0 + e); at = length g + (0 + e); condition = c; stack = p.stack }; ended = None }) d.initial
              ∙ ap (λ cs. record { written = []; place = record { start = length g + (0 + e); at = length g + (0 + e); condition = 0; stack = cs }; ended = None }) h.stack

      -- as far as the end of the first piece, or further on
      discarded : (e : ℕ) → both_pass.len ≡ n + e → MatchTurn R (g ++ y) p t ⊎ Crosses
      discarded zero len = inl (subst (MatchTurn R (g ++ y) p) (ap (passed p) (let k : both_pass.len ≡ n = omega (arith, len) in k) ∙ sym is) both_pass.turn)
      discarded (suc e) len = inr (crosses (suc e) len (omega arith))

      passes_seam : MatchTurn R (g ++ y) p t ⊎ Crosses
      passes_seam = discarded (both_pass.len - n) (let le = both_pass.more in omega (arith, le))

    match_both : MatchTurn R (g ++ y) p t ⊎ Crosses
    match_both = elim ((keeps.lines p.condition h.condition).stops own_line (drop p.at x) (is_text_drop p.at x x_text)) [
      | inl stop ↦ inl (stops stop)
      | inr d ↦ passes_seam d
    ]

  -- The scan over the first piece is at its end, and the one over both is where the first turn over the second piece leads.
  record Ahead (n : ℕ) (s : State) : Type 0 where
    at_end : s.place.at ≡ length g
    bytes : ℕ
    first : MatchTurn R y first_place (skipped bytes)
    turns : Turns R (g ++ y) n (seam s.written (skipped bytes))

  abbrev Both : ℕ → State → Type 0
  Both n s = Home M g s.place × (Turns R (g ++ y) n s ⊎ Ahead n s)

  -- the turns over the first piece, up to its end
  both : (n : ℕ) (s : State) → Turns R g n s → s.ended ≡ None → Both n s
  both zero s e going = (subst (λ (z : State). Home M g z.place) (sym e) first_home, inl e)
  both (suc n) s h going = from (h.0.ended) refl (λ none. both n h.0 h.1 none) h.2
    where
      from : (o : Option Ending) → h.0.ended ≡ o → (h.0.ended ≡ None → Both n h.0) → NextFrom R g h.0 o s → Both (suc n) s
      from (Some d) is before e = absurd (no_end h.0 d is (ap (λ (z : State). z.ended) (sym e) ∙ going))
      from None is before (t, inr end, e) = absurd (no_end t (Status (M.ending h.0.place.condition).status) (ap (λ (z : State). z.ended) end.leaves) (ap (λ (z : State). z.ended) (sym e) ∙ going))
      from None is before (t, inl m, e) = (subst (λ (z : State). Home M g z.place) (sym e) (H.home_after M laws keeps g g_text h.0.place home t m), goes (before is).1)
        where
          home : Home M g h.0.place
          home = (before is).0

          by : Turns R (g ++ y) n h.0 → MatchTurn R (g ++ y) h.0.place t ⊎ Crosses h.0.place t home m → Turns R (g ++ y) (suc n) s ⊎ Ahead (suc n) s
          by turns (inl same) = inl (h.0, turns, subst (λ o. NextFrom R (g ++ y) h.0 o s) (sym is) (t, inl same, e))
          by turns (inr c) = inr (record {
            at_end = ap (λ (z : State). z.place.at) e ∙ c.at_end;
            bytes = c.bytes;
            first = c.first;
            turns = (h.0, turns, subst (λ o. NextFrom R (g ++ y) h.0 o (seam s.written (skipped c.bytes))) (sym is) (seam [] (skipped c.bytes), inl c.turn, ap (λ v. seam v (skipped c.bytes)) written));
          })
            where
              written : s.written ≡ h.0.written
              written = ap (λ (z : State). z.written) e ∙ ap (λ v. h.0.written ++ v) c.silent ∙ append-nil h.0.written

          goes : Turns R (g ++ y) n h.0 ⊎ Ahead n h.0 → Turns R (g ++ y) (suc n) s ⊎ Ahead (suc n) s
          goes (inl turns) = by turns (match_both h.0.place t home m)
          goes (inr ahead) = absurd (let at = ahead.at_end in omega (arith, at, m.before_end))

  -- how the run over the first piece ends: at its end
  record AtEnd (s : State) : Type 0 where
    turns : ℕ
    before : State
    reached : Turns R g turns before
    going : before.ended ≡ None
    last : State
    end : EndTurn R g before.place last
    is : s ≡ record { written = before.written ++ last.written; place = last.place; ended = last.ended }

  at_end : (n : ℕ) (s : State) (d : Ending) → Turns R g n s → s.ended ≡ Some d → AtEnd s
  at_end zero s d e is = absurd (no_end s d is (ap (λ (z : State). z.ended) e))
  at_end (suc n) s d h is = from h.0.ended refl (λ e f. at_end n h.0 e h.1 f) h.2
    where
      from : (o : Option Ending) → h.0.ended ≡ o → ((e : Ending) → h.0.ended ≡ Some e → AtEnd h.0) → NextFrom R g h.0 o s → AtEnd s
      from (Some e) ended before same = subst AtEnd (sym same) (before e ended)
      from None ended before (t, inl m, e) = absurd (no_end t d (ap (λ (z : State). z.ended) (sym e) ∙ is) (H.goes_on M laws keeps g g_text h.0.place (both n h.0 h.1 ended).0 t m))
      from None ended before (t, inr end, e) = record { turns = n; before = h.0; reached = h.1; going = ended; last = t; end = end; is = e }

  -- there the scan stands as at first
  stands : (n : ℕ) (s : State) → Home M g s.place → s.ended ≡ None → s.place.at ≡ length g → s ≡ S.behind R g y (length x) g_size last_byte s.written first_state
  stands n s h going at = same s (start (cases_lt s.place.start s.place.at)) at2 (h.line (ap (at_line_start g) (at ∙ g_size) ∙ eq-eqb (byte_at g (length x)) 10 last_byte)) h.stack going
    where
      at2 : s.place.at ≡ length g + 0
      at2 = omega (arith, at)

      start : (s.place.start < s.place.at) ⊎ (s.place.at ≤ s.place.start) → s.place.start ≡ length g + 0
      start (inl less) = absurd (h.inner (length x) (omega (arith, less, at, g_size)) (omega (arith, at, g_size)) last_byte)
      start (inr more) = omega (arith, more, h.ordered, at)

      same : (z : State) → z.place.start ≡ length g + 0 → z.place.at ≡ length g + 0 → z.place.condition ≡ 0 → z.place.stack ≡ [] → z.ended ≡ None → z ≡ S.behind R g y (length x) g_size last_byte z.written first_state
      same z a b c d e =
          let k : ℕ = length g + 0 in
          ap (λ i. record { written = z.written; place = record { start = i; at = z.place.at; condition = z.place.condition; stack = z.place.stack }; ended = z.ended }) a
          ∙ ap (λ i. record { written = z.written; place = record { start = k; at = i; condition = z.place.condition; stack = z.place.stack }; ended = z.ended }) b
          ∙ ap (λ i. record { written = z.written; place = record { start = k; at = k; condition = i; stack = z.place.stack }; ended = z.ended }) c
          ∙ ap (λ i. record { written = z.written; place = record { start = k; at = k; condition = 0; stack = i }; ended = z.ended }) d
          ∙ ap (λ i. record { written = z.written; place = record { start = k; at = k; condition = 0; stack = [] }; ended = i }) e
          ∙ ap (λ i. record { written = i; place = record { start = k; at = k; condition = 0; stack = [] }; ended = None }) (sym (append-nil z.written))

  pub apart : (v w : List ℕ) (d e : Ending) → Run R g v d → Run R y w e → Run R (g ++ y) (v ++ w) e
  apart v w d e (i, p, h) (m, q, k) = from b.1
    where
      last : State
      last = record { written = w; place = q; ended = Some e }

      f : AtEnd (record { written = v; place = p; ended = Some d })
      f = at_end i (record { written = v; place = p; ended = Some d }) d h refl

      b : Both f.turns f.before
      b = both f.turns f.before f.reached f.going

      home : f.before.place.condition ≡ 0
      home = b.0.line (ap (at_line_start g) (f.end.at_end ∙ g_size) ∙ eq-eqb (byte_at g (length x)) 10 last_byte)

      written : f.before.written ≡ v
      written = sym (append-nil f.before.written) ∙ ap (λ z. f.before.written ++ z) (sym (ap (λ (z : State). z.written) f.end.leaves ∙ ap (λ c. (M.ending c).print) home ∙ keeps.silent)) ∙ ap (λ (z : State). z.written) (sym f.is)

      by : (j : ℕ) → Turns R (g ++ y) j (seam f.before.written last) → Run R (g ++ y) (v ++ w) e
      by j turns = run_by R (g ++ y) (v ++ w) e j (seam f.before.written last) turns (ap (λ z. z ++ w) written) refl

      -- some turn ended the scan of the second piece
      ahead : Ahead f.turns f.before → (m : ℕ) → Turns R y m last → Run R (g ++ y) (v ++ w) e
      ahead a zero k = absurd (no_end last e refl (ap (λ (z : State). z.ended) k))
      ahead a (suc m) k = by (m + f.turns) (S.turns_after R g y (length x) g_size last_byte f.before.written (skipped a.bytes) f.turns a.turns (first_state, refl, (skipped a.bytes, inl a.first, refl)) m last k)

      from : Turns R (g ++ y) f.turns f.before ⊎ Ahead f.turns f.before → Run R (g ++ y) (v ++ w) e
      from (inl turns) = by (m + f.turns) (S.turns_behind R g y (length x) g_size last_byte f.before.written first_state f.turns (subst (Turns R (g ++ y) f.turns) (stands f.turns f.before b.0 f.going f.end.at_end) turns) refl m last k)
      from (inr a) = ahead a m k

pub scans_apart : (M : Machine) → MachineLaws M → KeepsLines M → ScansApart (rules_of_machine M)
scans_apart M laws keeps x y v w d e x_text y_text = apart M laws keeps x y x_text y_text v w d e
