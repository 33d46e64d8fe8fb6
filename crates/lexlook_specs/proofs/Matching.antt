-- The matches by the specification that tells.
use Rattle.std.proofs.Common.{◌≡◌, ℕ, zero, suc, ◌+◌, ◌≤◌, ◌<◌, Bool, true, false, List, [], ◌∷◌, ◌++◌, length, map, take, ◌⊎◌, inl, inr, Option, Some, None, refl, sym, ◌∙◌, ap, subst, arith}
use Rattle.std.specs.Prelude.{not, ◌&&◌, ◌||◌, ◌==◌, nat_lt, slice_get}
use Rattle.std.proofs.lemmas.Bool.{and_from, cond-true, cond-false, lt-ltb, le-ltb, cases_lt, eq-eqb}
use Rattle.std.proofs.lemmas.List.{length-take-le, append-nil, append_assoc}
use Rattle.std.proofs.lemmas.Option.{slice_get_past}
use Rattle.std.specs.Option.{option_map_or}
use Rattle.std.specs.Prelude.{MatchOption}
use Rattle.std.specs.Prelude.{drop}
use Rattle.lex_semantics.specs.Acting.{Acting}
use Rattle.lex_semantics.specs.ActionResults.{ActionResult, Done, Again, Over, act_result, settle, perform_results}
use Rattle.lex_semantics.specs.Active.{active, serves, contains}
use Rattle.lex_semantics.specs.Candidates.{Candidate, Before, InOrder, IsCandidate, Candidates}
use Rattle.lex_semantics.specs.Fits.{Fits}
use Rattle.lex_semantics.specs.Rules.{Rules, Full, rules_of, statements_of}
use Rattle.lex_semantics.specs.Spec.{Spec, Rule, Condition, Echo, EndAction, statements_at, end_at}
use Rattle.lex_semantics.specs.Text.{IsText, Among, listed}
use Rattle.lex_semantics.specs.Positions.{Matches}
use Rattle.lex_semantics.proofs.Cuts.{same_rule}
use Rattle.lex_semantics.proofs.Fronts.{among_append, among_left, among_right}
use Rattle.lex_semantics.proofs.Table.{get_at}
use Rattle.lex_semantics.proofs.WordReadings.{in_of_match}
use Rattle.lex_semantics.proofs.Texts.{is_text_take}
use Rattle.lexlook_specs.specs.Lines.{front_of, match_line, match_lines}
use Rattle.lexlook_specs.specs.Traced.{end_line, telling, traced_rule, default_rule, traced_conditions, traced}
use Rattle.lexlook_specs.proofs.Acts.{anew, retold, telling_acts}
use Rattle.lexlook_specs.proofs.Sounding.{has_any, rule_count}

-- elements

got_left : (rs others : List Rule) (i : ℕ) (r : Rule) → slice_get rs i ≡ Some r → slice_get (map traced_rule rs ++ others) i ≡ Some (traced_rule r)
got_left [] others i r e = absurd (no e)
  where
    no : None ≡ Some r → ⊥
    no p = cc
got_left (q ∷ rs) others zero r e = ap traced_some e
  where
    traced_some : Option Rule → Option Rule
    traced_some None = None
    traced_some (Some z) = Some (traced_rule z)
got_left (q ∷ rs) others (suc i) r e = got_left rs others i r e

got_last : (rs : List Rule) (d : Rule) → slice_get (map traced_rule rs ++ d ∷ []) (length rs) ≡ Some d
got_last [] d = refl
got_last (r ∷ rs) d = got_last rs d

is_listed : (i k c : ℕ) → i ≤ c → c < i + k → contains (listed (λ c. true) i k) c ≡ true
is_listed i zero c le lt = absurd (omega (arith, le, lt))
is_listed i (suc k) c le lt = from (cases_lt i c) (λ less. is_listed (suc i) k c less (omega (arith, lt)))
  where
    or_right : (b d : Bool) → d ≡ true → (b || d) ≡ true
    or_right true d h = refl
    or_right false d h = h

    from : (i < c) ⊎ (c ≤ i) → (i < c → contains (listed (λ c. true) (suc i) k) c ≡ true) → ((i == c) || contains (listed (λ c. true) (suc i) k) c) ≡ true
    from (inl less) later = or_right (i == c) (contains (listed (λ c. true) (suc i) k) c) (later less)
    from (inr more) later = ap (λ d. d || contains (listed (λ c. true) (suc i) k) c) (eq-eqb i c (omega (arith, le, more)))

-- conditions

abbrev is_inclusive : Option Condition → Bool
is_inclusive k = option_map_or (λ k. not k.exclusive) k false

inclusive_same : (k : ℕ) (ks : List Condition) (c : ℕ) → is_inclusive (slice_get (traced_conditions k ks) c) ≡ is_inclusive (slice_get ks c)
inclusive_same k [] c = refl
inclusive_same k (q ∷ ks) zero = refl
inclusive_same k (q ∷ ks) (suc c) = inclusive_same (suc k) ks c

serves_same : (o : Option (List ℕ)) (c : ℕ) (ks : List Condition) → serves o c (slice_get (traced_conditions 0 ks) c) ≡ serves o c (slice_get ks c)
serves_same None c ks = inclusive_same 0 ks c
serves_same (Some cs) c ks = refl

abbrev told_end : ℕ → EndAction → EndAction
told_end c e = record { print = end_line c; status = e.status }

ending_from : (k : ℕ) (ks : List Condition) (c : ℕ) → c < length ks → end_at (slice_get (traced_conditions k ks) c) ≡ told_end (k + c) (end_at (slice_get ks c))
ending_from k [] c lt = absurd (omega (arith, lt))
ending_from k (q ∷ ks) zero lt = (let e : k ≡ k + 0 = omega arith in ap (λ i. told_end i q.end) e)
ending_from k (q ∷ ks) (suc c) lt = ending_from (suc k) ks c (omega (arith, lt)) ∙ (let e : suc k + c ≡ k + suc c = omega arith in ap (λ i. told_end i (end_at (slice_get ks c))) e)

module _ (S : Spec) where
  abbrev R : Rules
  R = rules_of S

  abbrev T : Rules
  T = rules_of (traced S)

  abbrev count : ℕ
  count = length S.rules

  abbrev last : Rule
  last = default_rule (length S.conditions)

  pub ending_told : (c : ℕ) → c < length S.conditions → T.ending c ≡ told_end c (R.ending c)
  ending_told c lt = ending_from 0 S.conditions c lt ∙ (let e : 0 + c ≡ c = omega arith in ap (λ i. told_end i (R.ending c)) e)

  active_same : (c : ℕ) (line : Bool) (r : Rule) → active (traced S) c line (traced_rule r) ≡ active S c line r
  active_same c line r = ap (λ b. b && (not r.anchored || line)) (serves_same r.conditions c S.conditions)

  -- the words of a rule are the same

  fits_to : (c : ℕ) (line : Bool) (w : List ℕ) (i k : ℕ) → Fits S c line w i k → Fits (traced S) c line w i k
  fits_to c line w i k h = record {
    rule = traced_rule h.rule;
    at = got_left S.rules (last ∷ []) i h.rule h.at;
    is_active = active_same c line h.rule ∙ h.is_active;
    not_empty = h.not_empty;
    inside = h.inside;
    in_head = h.in_head;
    in_trail = h.in_trail;
  }

  fits_from : (c : ℕ) (line : Bool) (w : List ℕ) (i k : ℕ) → i < count → Fits (traced S) c line w i k → Fits S c line w i k
  fits_from c line w i k lt h =
      let r = get_at S.rules i lt in
      let same : h.rule ≡ traced_rule r.0 = same_rule (traced S) i h.rule (traced_rule r.0) h.at (got_left S.rules (last ∷ []) i r.0 r.1) in
      record {
        rule = r.0;
        at = r.1;
        is_active = sym (active_same c line r.0) ∙ subst (λ q. active (traced S) c line q ≡ true) same h.is_active;
        not_empty = h.not_empty;
        inside = h.inside;
        in_head = subst (λ (q : Rule). Matches q.head (take k w)) same h.in_head;
        in_trail = subst (λ (q : Rule). MatchOption q.trail (k ≡ length w) (λ t. Matches t (drop k w))) same h.in_trail;
      }

  -- the default rule takes one byte

  last_fits : (c : ℕ) (line : Bool) (w : List ℕ) → c < length S.conditions → IsText w → length w ≡ 1 → Fits (traced S) c line w count 1
  last_fits c line [] lt text size = absurd (omega (arith, size))
  last_fits c line (a ∷ b ∷ w) lt text size = absurd (omega (arith, size))
  last_fits c line (b ∷ []) lt text size = record {
    rule = last;
    at = got_last S.rules last;
    is_active = and_from (contains (listed (λ c. true) 0 (length S.conditions)) c) true (is_listed 0 (length S.conditions) c (omega arith) (omega (arith, lt))) refl;
    not_empty = omega arith;
    inside = omega arith;
    in_head = ((b, 0) ∷ [], refl, (b, refl, (text.0, has_any b text.0)));
    in_trail = refl;
  }

  last_is_one : (c : ℕ) (line : Bool) (w : List ℕ) (i k : ℕ) → i ≡ count → Fits (traced S) c line w i k → (length w ≡ 1) × (k ≡ 1)
  last_is_one c line w i k is h =
      let same : h.rule ≡ last = same_rule (traced S) i h.rule last h.at (ap (slice_get (map traced_rule S.rules ++ last ∷ [])) is ∙ got_last S.rules last) in
      let head : Matches last.head (take k w) = subst (λ (q : Rule). Matches q.head (take k w)) same h.in_head in
      let whole : k ≡ length w = subst (λ (q : Rule). MatchOption q.trail (k ≡ length w) (λ t. Matches t (drop k w))) same h.in_trail in
      let one : k ≡ 1 = sym (length-take-le k w h.inside) ∙ ap length (in_of_match last.head (take k w) head).1 in
      (sym whole ∙ one, one)

  -- the matches

  abbrev pub extra : Candidate
  extra = record { len = 1; rule = suc count; keep = 1 }

  module _ (c : ℕ) (line : Bool) (y : List ℕ) (lt : c < length S.conditions) (text : IsText y) (some : 1 ≤ length y) where
    candidate_to : (m : Candidate) → IsCandidate R c line y m → IsCandidate T c line y m
    candidate_to m h = (h.0, from h.1)
      where
        from : Full R c line (take m.len y) m.rule m.keep → Full T c line (take m.len y) m.rule m.keep
        from (inl f) = inl (omega (arith, f.0, rule_count S), fits_to c line (take m.len y) m.rule m.keep f.1)
        from (inr f) = inl (omega (arith, f.0, rule_count S), subst (λ i. Fits (traced S) c line (take m.len y) i m.keep) (sym f.0) (subst (λ k. Fits (traced S) c line (take m.len y) count k) (sym f.2) (last_fits c line (take m.len y) lt (is_text_take m.len y text) f.1)))

    extra_is : IsCandidate T c line y extra
    extra_is = (some, inr (sym (rule_count S), length-take-le 1 y some, refl))

    same_extra : (m : Candidate) → m.len ≡ 1 → m.rule ≡ suc count → m.keep ≡ 1 → m ≡ extra
    same_extra m a b d =
        ap (λ i. record { len = i; rule = m.rule; keep = m.keep }) a ∙ ap (λ i. record { len = 1; rule = i; keep = m.keep }) b ∙ ap (λ i. record { len = 1; rule = suc count; keep = i }) d

    candidate_from : (m : Candidate) → IsCandidate T c line y m → IsCandidate R c line y m ⊎ (m ≡ extra)
    candidate_from m h = from h.1
      where
        from : Full T c line (take m.len y) m.rule m.keep → IsCandidate R c line y m ⊎ (m ≡ extra)
        from (inr f) = inr (same_extra m (sym (length-take-le m.len y h.0) ∙ f.1) (f.0 ∙ rule_count S) f.2)
        from (inl f) = old (cases_lt m.rule count)
          where
            old : (m.rule < count) ⊎ (count ≤ m.rule) → IsCandidate R c line y m ⊎ (m ≡ extra)
            old (inl less) = inl ((h.0, inl (less, fits_from c line (take m.len y) m.rule m.keep less f.1)))
            old (inr more) =
                let is : m.rule ≡ count = omega (arith, more, f.0, rule_count S) in
                let one = last_is_one c line (take m.len y) m.rule m.keep is f.1 in
                inl ((h.0, inr (is, one.0, one.1)))

    before_extra : (m : Candidate) → IsCandidate R c line y m → Before m extra
    before_extra m h = from h.1
      where
        n : length (take m.len y) ≡ m.len
        n = length-take-le m.len y h.0

        from : Full R c line (take m.len y) m.rule m.keep → Before m extra
        from (inr f) = inr (sym n ∙ f.1, omega (arith, f.0))
        from (inl f) = size (cases_lt 1 m.len)
          where
            size : (1 < m.len) ⊎ (m.len ≤ 1) → Before m extra
            size (inl less) = inl less
            size (inr le) = inr (omega (arith, le, n, f.1.inside, f.1.not_empty), omega (arith, f.0))

    in_order : (ms : List Candidate) → InOrder ms → ((m : Candidate) → Among ms m → Before m extra) → InOrder (ms ++ extra ∷ [])
    in_order [] h k = (λ n a. absurd a, tt)
    in_order (m ∷ ms) h k = (
      λ n a. (elim (among_append ms (extra ∷ []) n a) [
        | inl b ↦ h.0 n b
        | inr b ↦ (elim b [ inl e ↦ subst (Before m) (sym e) (k m (inl refl)) | inr b ↦ absurd b ])
      ]),
      in_order ms h.1 (λ q a. k q (inr a)),
    )

    -- are those of the specification, and after them the one that is never taken
    pub candidates_told : (ms : List Candidate) → Candidates R c line y ms → Candidates T c line y (ms ++ extra ∷ [])
    candidates_told ms h = record { in_order = in_order ms h.in_order (λ m a. before_extra m ((h.members m).0 a)); members = λ m. (to m, from m) }
      where
        to : (m : Candidate) → Among (ms ++ extra ∷ []) m → IsCandidate T c line y m
        to m a = elim (among_append ms (extra ∷ []) m a) [
          | inl b ↦ candidate_to m ((h.members m).0 b)
          | inr b ↦ (elim b [ inl e ↦ subst (IsCandidate T c line y) (sym e) extra_is | inr b ↦ absurd b ])
        ]

        from : (m : Candidate) → IsCandidate T c line y m → Among (ms ++ extra ∷ []) m
        from m a = elim (candidate_from m a) [ inl b ↦ among_left ms (extra ∷ []) m ((h.members m).1 b) | inr e ↦ among_right ms (extra ∷ []) m (inl e) ]

    pub rule_bound : (m : Candidate) → IsCandidate R c line y m → m.rule ≤ count
    rule_bound m h = elim h.1 [ inl f ↦ omega (arith, f.0) | inr f ↦ omega (arith, f.0) ]

  -- the actions

  told_statements : (i : ℕ) → i ≤ count → statements_of T i ≡ telling (front_of (slice_get S.rules i)) (statements_of R i)
  told_statements i le = cond-true (nat_lt i T.count) (T.statements i) (Echo ∷ []) (lt-ltb i T.count (omega (arith, le, rule_count S))) ∙ from (cases_lt i count)
    where
      from : (i < count) ⊎ (count ≤ i) → T.statements i ≡ telling (front_of (slice_get S.rules i)) (statements_of R i)
      from (inl less) =
          let r = get_at S.rules i less in
          ap statements_at (got_left S.rules (last ∷ []) i r.0 r.1)
          ∙ ap (λ o. telling (front_of o) (statements_at o)) (sym r.1)
          ∙ ap (telling (front_of (slice_get S.rules i))) (sym (cond-true (nat_lt i count) (R.statements i) (Echo ∷ []) (lt-ltb i count less)))
      from (inr more) =
          let is : i ≡ count = omega (arith, le, more) in
          ap statements_at (ap (slice_get (map traced_rule S.rules ++ last ∷ [])) is ∙ got_last S.rules last)
          ∙ ap (λ o. telling (front_of o) (Echo ∷ [])) (sym (slice_get_past S.rules i more))
          ∙ ap (telling (front_of (slice_get S.rules i))) (sym (cond-false (nat_lt i count) (R.statements i) (Echo ∷ []) (le-ltb i count more)))

  module _ (kept y : List ℕ) where
    -- the match that is carried out, those before it, and what the scan that tells does
    pub record Taken (ms : List Candidate) (out told : List ℕ) (c : ℕ) (cs : List ℕ) (o : Acting) : Type 0 where
      pub passed : List Candidate
      pub taken : Candidate
      pub left : List Candidate
      pub splits : ms ≡ passed ++ taken ∷ left
      pub rejected : perform_results R kept y passed out c cs ≡ None
      pub carried : perform_results R kept y (passed ++ taken ∷ []) out c cs ≡ Some o
      pub performed : (more : List Candidate) → perform_results T kept y (ms ++ more) told c cs ≡ Some (anew (told ++ match_lines S kept y (passed ++ taken ∷ [])) o)

    nothing_taken : (out : List ℕ) (c : ℕ) (cs : List ℕ) → perform_results R kept y [] out c cs ≡ None
    unfolding perform_results
    nothing_taken out c cs = refl

    abbrev before : Candidate → (out : List ℕ) (c : ℕ) (cs : List ℕ) → Acting
    before m out c cs = record { text = kept ++ take m.keep y; written = out; condition = c; stack = cs; more = false; ended = None }

    abbrev line_of : Candidate → List ℕ
    line_of m = match_line (slice_get S.rules m.rule) (kept ++ take m.keep y)

    abbrev acted : Candidate → (out : List ℕ) (c : ℕ) (cs : List ℕ) → ActionResult
    acted m out c cs = act_result (statements_of R m.rule) (before m out c cs)

    one_step : (m : Candidate) (ms : List Candidate) (out : List ℕ) (c : ℕ) (cs : List ℕ) → perform_results R kept y (m ∷ ms) out c cs ≡ settle (acted m out c cs) (λ a. perform_results R kept y ms a.written a.condition a.stack)
    unfolding perform_results
    one_step m ms out c cs = refl

    one_step_told : (m : Candidate) (ms : List Candidate) (out told : List ℕ) (c : ℕ) (cs : List ℕ) → m.rule ≤ count →
        perform_results T kept y (m ∷ ms) told c cs ≡ settle (retold (told ++ line_of m) (acted m out c cs)) (λ a. perform_results T kept y ms a.written a.condition a.stack)
    unfolding perform_results
    one_step_told m ms out told c cs le =
        ap (λ ss. settle (act_result ss (before m told c cs)) (λ a. perform_results T kept y ms a.written a.condition a.stack)) (told_statements m.rule le)
        ∙ ap (λ r. settle r (λ a. perform_results T kept y ms a.written a.condition a.stack)) (telling_acts told (front_of (slice_get S.rules m.rule)) (statements_of R m.rule) (before m out c cs))

    pub taken_of : (ms : List Candidate) (out told : List ℕ) (c : ℕ) (cs : List ℕ) (o : Acting) → ((m : Candidate) → Among ms m → m.rule ≤ count) → perform_results R kept y ms out c cs ≡ Some o → Taken ms out told c cs o
    taken_of [] out told c cs o below e = absurd (no (sym (nothing_taken out c cs) ∙ e))
      where
        no : None ≡ Some o → ⊥
        no p = cc
    taken_of (m ∷ ms) out told c cs o below e =
        from (acted m out c cs) refl (sym (one_step m ms out c cs) ∙ e)
        (λ w t d ds h. taken_of ms w t d ds o (λ q a. below q (inr a)) h)
      where
        le : m.rule ≤ count
        le = below m (inl refl)

        -- the first match is carried out
        here : (q : Acting) → (r : ActionResult) → acted m out c cs ≡ r → ((f : Acting → Option Acting) → settle r f ≡ Some q) → ((f : Acting → Option Acting) → settle (retold (told ++ line_of m) r) f ≡ Some (anew (told ++ line_of m) q)) → q ≡ o →
            Taken (m ∷ ms) out told c cs o
        here q r is done done_told same = record {
          passed = [];
          taken = m;
          left = ms;
          splits = refl;
          rejected = nothing_taken out c cs;
          carried = one_step m [] out c cs ∙ ap (λ z. settle z (λ a. perform_results R kept y [] a.written a.condition a.stack)) is ∙ done (λ a. perform_results R kept y [] a.written a.condition a.stack) ∙ ap Some same;
          performed = λ more. (one_step_told m (ms ++ more) out told c cs le ∙ ap (λ z. settle (retold (told ++ line_of m) z) (λ a. perform_results T kept y (ms ++ more) a.written a.condition a.stack)) is
              ∙ done_told (λ a. perform_results T kept y (ms ++ more) a.written a.condition a.stack) ∙ ap (λ z. Some (anew (told ++ z) q)) (sym (append-nil (line_of m))) ∙ ap (λ z. Some (anew (told ++ (line_of m ++ [])) z)) same);
        }

        same_outcome : (q : Acting) → Some q ≡ Some o → q ≡ o
        same_outcome q p = cc

        from : (r : ActionResult) → acted m out c cs ≡ r → settle r (λ a. perform_results R kept y ms a.written a.condition a.stack) ≡ Some o →
            ((w t : List ℕ) (d : ℕ) (ds : List ℕ) → perform_results R kept y ms w d ds ≡ Some o → Taken ms w t d ds o) → Taken (m ∷ ms) out told c cs o
        from (Done a) is p later = here (record a { ended = None }) (Done a) is (λ f. refl) (λ f. refl) (same_outcome _ p)
        from (Over a d) is p later = here (record a { ended = Some d }) (Over a d) is (λ f. refl) (λ f. refl) (same_outcome _ p)
        from (Again a) is p later =
            let k = later a.written (told ++ line_of m) a.condition a.stack p in
            record {
              passed = m ∷ k.passed;
              taken = k.taken;
              left = k.left;
              splits = ap (λ z. m ∷ z) k.splits;
              rejected = one_step m k.passed out c cs ∙ ap (λ z. settle z (λ a. perform_results R kept y k.passed a.written a.condition a.stack)) is ∙ k.rejected;
              carried = one_step m (k.passed ++ k.taken ∷ []) out c cs ∙ ap (λ z. settle z (λ a. perform_results R kept y (k.passed ++ k.taken ∷ []) a.written a.condition a.stack)) is ∙ k.carried;
              performed = λ more. (one_step_told m (ms ++ more) out told c cs le ∙ ap (λ z. settle (retold (told ++ line_of m) z) (λ a. perform_results T kept y (ms ++ more) a.written a.condition a.stack)) is
                  ∙ k.performed more ∙ ap (λ z. Some (anew z o)) (append_assoc told (line_of m) (match_lines S kept y (k.passed ++ k.taken ∷ []))));
            }
