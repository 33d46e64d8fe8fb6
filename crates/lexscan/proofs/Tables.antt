-- The tokens by a machine that is a table for a specification are those of the specification.
use Rattle.std.proofs.Common.{◌≡◌, ℕ, zero, suc, ◌≤◌, ◌<◌, Bool, true, false, List, [], ◌∷◌, ◌++◌, take, drop, ◌⊎◌, inl, inr, Option, Some, None, refl, sym, ◌∙◌, ap, subst, arith}
use Rattle.std.specs.Prelude.{nat_lt}
use Rattle.std.proofs.lemmas.Bool.{cond-true, cond-false, lt-ltb, le-ltb, cases_lt}
use Rattle.lex_semantics.proofs.ResultsAre.{results_are}
use Rattle.lex_semantics.specs.Text.{IsText, Among, part, at_line_start}
use Rattle.lex_semantics.specs.Spec.{Spec, Echo, has_reject, rejects}
use Rattle.lex_semantics.specs.Sound.{IsSound}
use Rattle.lex_semantics.specs.Rules.{Rules, Full, rules_of, statements_of}
use Rattle.lex_semantics.specs.Candidates.{Candidate, Before, IsCandidate, Candidates}
use Rattle.lex_semantics.specs.Acting.{Ending, Acting}
use Rattle.lex_semantics.specs.ActionResults.{ActionResult, Done, Again, Over, act_result, settle, perform_results}
use Rattle.lex_semantics.specs.Run.{Place}
use Rattle.lex_semantics.specs.Machine.{Machine, rules_of_machine}
use Rattle.lex_semantics.specs.MachineLaws.{MachineLaws}
use Rattle.lex_semantics.specs.TableFor.{TableFor}
use Rattle.lex_semantics.proofs.Texts.{is_text_take, is_text_drop}
use Rattle.lex_semantics.proofs.Once.{same_order, same_heads}
use Rattle.lex_semantics.proofs.Local.{settle_same}
use Rattle.lex_semantics.proofs.Table.{Alike, same_statements, candidate_to, turns_to, table_alike}
use Rattle.lexscan_window.specs.declared.matched.MatchedRule.{MatchedRule}
use Rattle.lexscan_matching.specs.Descends.{IsRule}
use Rattle.lexscan.specs.Matches.{CarriesOut}
use Rattle.lexscan_matching.proofs.Picking.{never_rejects}
use Rattle.lexscan.specs.declared.token.Token.{Token}
use Rattle.lexscan.specs.Tokens.{IsToken, Appends, TokensOf, Tokenised}

same_perform : (all : Bool) (R Q : Rules) (alike : Alike all R Q) (kept y : List ℕ) (ms : List Candidate) (out : List ℕ) (d : ℕ) (cs : List ℕ) → perform_results R kept y ms out d cs ≡ perform_results Q kept y ms out d cs
unfolding perform_results
same_perform all R Q alike kept y [] out d cs = refl
same_perform all R Q alike kept y (m ∷ ms) out d cs =
    let a : Acting = record { text = kept ++ take m.keep y; written = out; condition = d; stack = cs; more = false; ended = None } in
    ap (λ ss. settle (act_result ss a) (λ b. perform_results R kept y ms b.written b.condition b.stack)) (same_statements all R Q alike m.rule)
    ∙ settle_same (act_result (statements_of Q m.rule) a) (λ b. perform_results R kept y ms b.written b.condition b.stack) (λ b. perform_results Q kept y ms b.written b.condition b.stack)
    (λ b. same_perform all R Q alike kept y ms b.written b.condition b.stack)

candidate_from : (R Q : Rules) (alike : Alike true R Q) (c : ℕ) (line_start : Bool) (y : List ℕ) (m : Candidate) → c < Q.conditions → IsText y → IsCandidate Q c line_start y m → IsCandidate R c line_start y m
candidate_from R Q alike c line_start y m lt text h = (h.0, from h.1)
  where
    from : Full Q c line_start (take m.len y) m.rule m.keep → Full R c line_start (take m.len y) m.rule m.keep
    from (inl f) = inl (omega (arith, f.0, alike.count), alike.matches c line_start (take m.len y) m.rule m.keep lt (is_text_take m.len y text) f.1)
    from (inr f) = inr (f.0 ∙ sym alike.count, f.1, f.2)

-- where no rule has REJECT, the first match decides

rule_without_reject : (Q : Rules) → ((i : ℕ) → i < Q.count → has_reject (Q.statements i) ≡ false) → (i : ℕ) → (i < Q.count) ⊎ (Q.count ≤ i) → has_reject (statements_of Q i) ≡ false
rule_without_reject Q h i (inl lt) = ap has_reject (cond-true (nat_lt i Q.count) (Q.statements i) (Echo ∷ []) (lt-ltb i Q.count lt)) ∙ h i lt
rule_without_reject Q h i (inr le) = ap has_reject (cond-false (nat_lt i Q.count) (Q.statements i) (Echo ∷ []) (le-ltb i Q.count le))

not_none : (w : ActionResult) (f : Acting → Option Acting) → ((b : Acting) → w ≡ Again b → ⊥) → settle w f ≡ None → ⊥
not_none (Done a) f never e = cc
not_none (Again a) f never e = never a refl
not_none (Over a d) f never e = cc

decided : (R Q : Rules) (alike : Alike false R Q) (kept y : List ℕ) (m : Candidate) (ms : List Candidate) (d : ℕ) (cs : List ℕ) → perform_results R kept y (m ∷ ms) [] d cs ≡ None → ⊥
unfolding perform_results
decided R Q alike kept y m ms d cs e =
    let a : Acting = record { text = kept ++ take m.keep y; written = []; condition = d; stack = cs; more = false; ended = None } in
    not_none (act_result (statements_of R m.rule) a) (λ b. perform_results R kept y ms b.written b.condition b.stack)
    (λ b again. never_rejects (statements_of R m.rule) a b (ap has_reject (same_statements false R Q alike m.rule) ∙ rule_without_reject Q alike.matches.1 m.rule (cases_lt m.rule Q.count)) again) e

none_performed : (R : Rules) (kept y : List ℕ) (d : ℕ) (cs : List ℕ) → perform_results R kept y [] [] d cs ≡ None
unfolding perform_results
none_performed R kept y d cs = refl

-- the first match of Q is one of R
first_from : (R Q : Rules) (alike : Alike false R Q) (c : ℕ) (line_start : Bool) (y : List ℕ) (n : Candidate) (ns : List Candidate) → c < Q.conditions → IsText y →
    Candidates Q c line_start y (n ∷ ns) → IsCandidate R c line_start y n
first_from R Q alike c line_start y n ns lt text h = (own.0, from own.1)
  where
    own : IsCandidate Q c line_start y n
    own = (h.members n).0 (inl refl)

    not_after : (q : Candidate) → q.len ≡ n.len → q.rule < n.rule → Among (n ∷ ns) q → ⊥
    not_after q len less (inl e) = let same : q.rule ≡ n.rule = ap (λ (z : Candidate). z.rule) e in omega arith
    not_after q len less (inr k) = let b : Before n q = h.in_order.0 q k in omega arith

    from : Full Q c line_start (take n.len y) n.rule n.keep → Full R c line_start (take n.len y) n.rule n.keep
    from (inr f) = inr (f.0 ∙ sym alike.count, f.1, f.2)
    from (inl f) = inl (omega (arith, f.0, alike.count), alike.matches.0 c line_start (take n.len y) n.rule n.keep lt (is_text_take n.len y text) f.1 none)
      where
        none : (j l : ℕ) → j < n.rule → Q.full c line_start (take n.len y) j l → ⊥
        none j l less g =
            let q : Candidate = record { len = n.len; rule = j; keep = l } in
            not_after q refl less ((h.members q).1 ((own.0, inl (omega (arith, less, f.0), g))))

-- a match that is carried out by R is carried out by Q
carries_to : (all : Bool) (R Q : Rules) (alike : Alike all R Q) (x : List ℕ) (p : Place) (m : Candidate) (o : Acting) → IsText x → p.condition < Q.conditions → CarriesOut R x p m o → CarriesOut Q x p m o
carries_to true R Q alike x p m o text lt k =
    let y : List ℕ = drop p.at x in
    let line_start : Bool = at_line_start x p.at in
    let kept : List ℕ = part x p.start p.at in
    let listed = alike.exist p.condition line_start y in
    let low : IsText y = is_text_drop p.at x text in
    let same : listed.0 ≡ k.passed ++ m ∷ k.left = same_order listed.0 (k.passed ++ m ∷ k.left) listed.1.in_order k.all.in_order (λ q. (
      λ a. (k.all.members q).1 (candidate_from R Q alike p.condition line_start y q lt low ((listed.1.members q).0 a)),
      λ a. (listed.1.members q).1 (candidate_to true R Q alike p.condition line_start y q lt low ((k.all.members q).0 a)),
    )) in
    record {
      before_end = k.before_end;
      passed = k.passed;
      left = k.left;
      all = subst (Candidates Q p.condition line_start y) same listed.1;
      rejected = results_are _ _ _ _ _ _ _ ∙ sym (same_perform true R Q alike kept y k.passed [] p.condition p.stack) ∙ sym (results_are _ _ _ _ _ _ _) ∙ k.rejected;
      carried = results_are _ _ _ _ _ _ _ ∙ sym (same_perform true R Q alike kept y (k.passed ++ m ∷ []) [] p.condition p.stack) ∙ sym (results_are _ _ _ _ _ _ _) ∙ k.carried;
    }
carries_to false R Q alike x p m o text lt k = by_passed k.passed k.all (sym (results_are _ _ _ _ _ _ _) ∙ k.rejected) (sym (results_are _ _ _ _ _ _ _) ∙ k.carried)
  where
    y : List ℕ
    y = drop p.at x

    line_start : Bool
    line_start = at_line_start x p.at

    kept : List ℕ
    kept = part x p.start p.at

    low : IsText y
    low = is_text_drop p.at x text

    first : (left : List Candidate) → Candidates R p.condition line_start y (m ∷ left) → perform_results R kept y (m ∷ []) [] p.condition p.stack ≡ Some o → (ns : List Candidate) → Candidates Q p.condition line_start y ns → CarriesOut Q x p m o
    first left mine done [] theirs = absurd ((theirs.members m).1 (candidate_to false R Q alike p.condition line_start y m lt low ((mine.members m).0 (inl refl))))
    first left mine done (n ∷ ns) theirs =
        let m_in : Among (n ∷ ns) m = (theirs.members m).1 (candidate_to false R Q alike p.condition line_start y m lt low ((mine.members m).0 (inl refl))) in
        let n_in : Among (m ∷ left) n = (mine.members n).1 (first_from R Q alike p.condition line_start y n ns lt low theirs) in
        let same : n ≡ m = sym (same_heads m n left ns mine.in_order theirs.in_order m_in n_in) in
        record {
          before_end = k.before_end;
          passed = [];
          left = ns;
          all = subst (λ z. Candidates Q p.condition line_start y (z ∷ ns)) same theirs;
          rejected = results_are _ _ _ _ _ _ _ ∙ none_performed Q kept y p.condition p.stack;
          carried = results_are _ _ _ _ _ _ _ ∙ sym (same_perform false R Q alike kept y (m ∷ []) [] p.condition p.stack) ∙ done;
        }

    by_passed : (passed : List Candidate) → Candidates R p.condition line_start y (passed ++ m ∷ k.left) → perform_results R kept y passed [] p.condition p.stack ≡ None →
        perform_results R kept y (passed ++ m ∷ []) [] p.condition p.stack ≡ Some o → CarriesOut Q x p m o
    by_passed [] mine rejected done = let listed = alike.exist p.condition line_start y in first k.left mine done listed.0 listed.1
    by_passed (q ∷ qs) mine rejected done = absurd (decided R Q alike kept y q qs p.condition p.stack rejected)

same_rule : (n m : ℕ) (rule : Option MatchedRule) (i : ℕ) → n ≡ m → IsRule n rule i → IsRule m rule i
same_rule n m rule i e h = subst (λ k. IsRule k rule i) e h

module _ (all : Bool) (R Q : Rules) (alike : Alike all R Q) (x : List ℕ) (text : IsText x) where
  token_to : (p : Place) (t : Token) → p.condition < Q.conditions → IsToken R x p t → IsToken Q x p t
  token_to p t lt k = record {
    taken = k.taken;
    outcome = k.outcome;
    carries = carries_to all R Q alike x p k.taken k.outcome text lt k.carries;
    rule_is = same_rule R.count Q.count (Some t.rule) k.taken.rule alike.count k.rule_is;
    start_is = k.start_is;
    end_is = k.end_is;
    condition_is = k.condition_is;
    text_is = k.text_is;
  }

  appends_to : (p : Place) (ts us : List Token) → p.condition < Q.conditions → Appends R x p ts us → Appends Q x p ts us
  appends_to p ts us lt (inl k) = inl (k.0, token_to p k.0 lt k.1, k.2)
  appends_to p ts us lt (inr k) = inr k

  tokens_to : (n : ℕ) (us : List Token) → TokensOf R x n us → TokensOf Q x n us
  tokens_to zero us k = k
  tokens_to (suc n) us (s, ts, turns, going, before, appends) =
      let on = turns_to all R Q alike x n s text turns in
      (s, ts, on.0, going, tokens_to n ts before, appends_to s.place ts us on.1.0 appends)

  tokenised_to : (us : List Token) (ending : Ending) → Tokenised R x us ending → Tokenised Q x us ending
  tokenised_to us ending k = record {
    turns = k.turns;
    last = k.last;
    reached = (turns_to all R Q alike x k.turns k.last text k.reached).0;
    ends = k.ends;
    tokens = tokens_to k.turns us k.tokens;
  }

pub table_tokens : (M : Machine) (S : Spec) → MachineLaws M → IsSound S → TableFor M S → (x : List ℕ) (us : List Token) (ending : Ending) → IsText x → Tokenised (rules_of_machine M) x us ending → Tokenised (rules_of S) x us ending
table_tokens M S laws sound table x us ending text k = tokenised_to (rejects S) (rules_of_machine M) (rules_of S) (table_alike M S sound table) x text us ending k
