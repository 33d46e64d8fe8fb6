-- What the actions make of the matches that a scanner has seen.
use Rattle.std.proofs.Common.{◌≡◌, ℕ, ◌≤◌, ◌<◌, false, List, [], ◌∷◌, ◌++◌, length, take, drop, ◌⊎◌, inl, inr, Option, Some, None, refl, sym, ◌∙◌, ap, subst, arith}
use Rattle.std.proofs.lemmas.List.{length-take-le, take-take}
use Rattle.std.proofs.lemmas.Bool.{cases_lt}
use Rattle.lex_semantics.specs.Text.{Among}
use Rattle.lex_semantics.specs.Legal.{IsAction}
use Rattle.lex_semantics.specs.Rules.{Rules, statements_of}
use Rattle.lex_semantics.specs.Candidates.{Candidate, Candidates}
use Rattle.lex_semantics.specs.Acting as Scan
use Rattle.lex_semantics.specs.ActionResults.{ActionResult, Done, Again, Over, act_result, settle, perform_results}
use Rattle.lex_semantics.specs.Machine.{Machine, rules_of_machine}
use Rattle.lex_semantics.specs.MachineLaws.{MachineLaws}
use Rattle.lex_semantics.specs.Plain.{default_match}
use Rattle.lex_semantics.specs.Trail.{trail_from, falling}
use Rattle.lex_semantics.proofs.Actions.{begins_below}
use Rattle.lex_semantics.proofs.Table.{Below, ResultBelow, act_below}
use Rattle.lex_semantics.proofs.MachineLaws.{machine_laws}
use Rattle.lex_semantics.proofs.MachineRun.{machine_candidates_exist}
use Rattle.lex_semantics.proofs.Fronts.{among_right}
use Rattle.lex_semantics.proofs.Local.{same_performed, keep_inside}
use Rattle.lex_semantics.proofs.Falling.{falling_candidates}
use Rattle.lex_semantics.proofs.Ends.{GoodMatch, perform_good, keep_bounds, legal_of}
use Rattle.lex_semantics.proofs.Once.{some_inj}
use Rattle.lexscan_window.specs.declared.state.TextPlace.{TextPlace}
use Rattle.lexscan_matching.specs.Looks.{SoFar}
use Rattle.lexscan_matching.specs.Descends.{Conditions, outcome, matches_of}
use Rattle.lexscan_matching.proofs.Descending.{default_one}

-- the conditions stay in range
settle_below : (n : ℕ) (w : ActionResult) (f : Scan.Acting → Option Scan.Acting) (o : Scan.Acting) → ResultBelow n w → ((a : Scan.Acting) → Below n a.condition a.stack → f a ≡ Some o → Below n o.condition o.stack) → settle w f ≡ Some o →
    Below n o.condition o.stack
settle_below n (Done a) f o h later e = subst (λ (z : Scan.Acting). Below n z.condition z.stack) (some_inj (record a { ended = None }) o e) h
settle_below n (Again a) f o h later e = later a h e
settle_below n (Over a d) f o h later e = subst (λ (z : Scan.Acting). Below n z.condition z.stack) (some_inj (record a { ended = Some d }) o e) h

pub perform_below : (R : Rules) → ((i : ℕ) → i < R.count → IsAction R.conditions (R.statements i)) → (kept y : List ℕ) (ms : List Candidate) (out : List ℕ) (c : ℕ) (cs : List ℕ) (o : Scan.Acting) → Below R.conditions c cs →
    perform_results R kept y ms out c cs ≡ Some o → Below R.conditions o.condition o.stack
unfolding perform_results
perform_below R legal kept y [] out c cs o lt e = absurd (no e)
  where
    no : None ≡ Some o → ⊥
    no p = cc
perform_below R legal kept y (m ∷ ms) out c cs o lt e =
    let a : Scan.Acting = record { text = kept ++ take m.keep y; written = out; condition = c; stack = cs; more = false; ended = None } in
    let ok : IsAction R.conditions (statements_of R m.rule) = legal_of R legal m.rule (cases_lt m.rule R.count) in
    settle_below R.conditions (act_result (statements_of R m.rule) a) (λ b. perform_results R kept y ms b.written b.condition b.stack) o
    (act_below R.conditions (statements_of R m.rule) a lt (begins_below R.conditions (statements_of R m.rule) ok.ranges))
    (λ b less p. perform_below R legal kept y ms b.written b.condition b.stack o less p) e

module _ (M : Machine) (laws : MachineLaws M) (p : TextPlace) (w : List ℕ) (reach state : ℕ) (path : List ℕ) (some : 1 ≤ reach) (h : SoFar M p (drop p.at w) reach state path) where
  -- the bytes that the match has asked for
  abbrev pub ahead : List ℕ
  ahead = take reach (drop p.at w)

  -- all the matches among them
  abbrev pub seen_matches : List Candidate
  seen_matches = falling M 0 (trail_from M (M.start p.condition p.line_start) ahead) ++ default_match M.count ahead

  pub size : length ahead ≡ reach
  size = length-take-le reach (drop p.at w) h.inside

  pub matches_are : matches_of M w p.at path ≡ seen_matches
  matches_are =
      ap (λ t. falling M 0 t ++ default_match M.count (drop p.at w)) h.path_is
      ∙ ap (λ l. falling M 0 (trail_from M (M.start p.condition p.line_start) ahead) ++ l) (default_one M (drop p.at w) (omega (arith, some, h.inside)) ∙ sym (default_one M ahead (omega (arith, some, size))))

  pub all_seen : Candidates (rules_of_machine M) p.condition p.line_start ahead seen_matches
  all_seen = falling_candidates M laws p.condition p.line_start ahead

  -- over all bytes or over those asked for, the actions make the same of them
  pub seen_outcome : (out : List ℕ) (c : Conditions) → outcome M w p.at (matches_of M w p.at path) out c ≡ perform_results (rules_of_machine M) (take p.at w) ahead seen_matches out c.next c.stack
  seen_outcome out c =
      ap (λ l. outcome M w p.at l out c) matches_are
      ∙ sym (same_performed (rules_of_machine M) (take p.at w) ahead (drop p.at w) seen_matches out c.next c.stack
      (λ m a. take-take m.keep reach (drop p.at w) (short m a)))
    where
      short : (m : Candidate) → Among seen_matches m → m.keep ≤ reach
      short m a = let le = keep_inside (rules_of_machine M) (machine_laws M laws) p.condition p.line_start ahead m ((all_seen.members m).0 a) in omega (arith, le, size)

  -- there is an outcome
  pub good : (out : List ℕ) (c : Conditions) → GoodMatch (length (take p.at w)) (length ahead) (perform_results (rules_of_machine M) (take p.at w) ahead seen_matches out c.next c.stack)
  good out c =
      perform_good (rules_of_machine M) laws.legal (take p.at w) ahead seen_matches out c.next c.stack
      (λ m a. keep_bounds (rules_of_machine M) (machine_laws M laws) laws.legal (λ c line_start y. machine_candidates_exist M laws c line_start y) w p.condition p.line_start ahead m ((all_seen.members m).0 a))
      (record { len = 1; rule = M.count; keep = 1 })
      (among_right (falling M 0 (trail_from M (M.start p.condition p.line_start) ahead)) (default_match M.count ahead) (record { len = 1; rule = M.count; keep = 1 })
      (subst (λ l. Among l (record { len = 1; rule = M.count; keep = 1 })) (sym (default_one M ahead (omega (arith, some, size)))) (inl refl)))
      refl

  -- its text is not empty
  pub some_text : (o : Scan.Acting) (out : List ℕ) (c : Conditions) → outcome M w p.at (matches_of M w p.at path) out c ≡ Some o → 1 ≤ length o.text
  some_text o out c e =
      let q = good out c in
      let same : q.0 ≡ o = some_inj q.0 o (sym q.1 ∙ sym (seen_outcome out c) ∙ e) in
      subst (λ (z : Scan.Acting). 1 ≤ length z.text) same (from q.0 q.2.grows)
    where
      from : (a : Scan.Acting) → (length (take p.at w) < length a.text) ⊎ ((1 ≤ length a.text) × (a.more ≡ false)) → 1 ≤ length a.text
      from a (inl lt) = omega (arith, lt)
      from a (inr k) = k.0
