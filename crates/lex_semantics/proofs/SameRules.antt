-- Specifications with the same rules have the same turns, demand and run, and answer the same.
use Rattle.std.proofs.Common.{◌≡◌, ℕ, suc, ◌<◌, Bool, true, ◌||◌, List, [], ◌∷◌, ◌++◌, length, ◌↔◌, Some, refl, sym, ◌∙◌, ap, subst, arith}
use Rattle.std.specs.Prelude.{slice_get}
use Rattle.lex_semantics.specs.Text.{IsText}
use Rattle.lex_semantics.specs.Spec.{Spec, Rule, statements_at, has_reject, any_reject, rejects}
use Rattle.lex_semantics.specs.Reports.{HasFit, Useless, BackWord}
use Rattle.lex_semantics.specs.TableFor.{Accepted}
use Rattle.lex_semantics.specs.ScanLaws.{SameOver}
use Rattle.lex_semantics.specs.TableLaws.{SameAnswers}
use Rattle.lex_semantics.specs.Rules.{Live, rules_of}
use Rattle.lex_semantics.specs.SameRules.{SameRules}
use Rattle.lex_semantics.specs.Sound.{IsSound}
use Rattle.lex_semantics.proofs.Actions.{BeginsBelow, begins_below}
use Rattle.lex_semantics.proofs.Texts.{is_text_append}
use Rattle.lex_semantics.proofs.Exists.{candidates_exist}
use Rattle.lex_semantics.proofs.Table.{Alike, get_at, turns_to, after_to, run_to}

pub turned_round : (S T : Spec) → SameRules S T → SameRules T S
turned_round S T same = record {
  conditions = sym same.conditions;
  rules = sym same.rules;
  ending = λ c. sym (same.ending c);
  actions = λ i q r at_q at_r. (let h = same.actions i r q at_r at_q in (sym h.0, sym h.1));
  fits = λ c line_start w i k lt text. (let h = same.fits c line_start w i k (omega (arith, lt, same.conditions)) text in (h.1, h.0));
}

module _ (S T : Spec) (sound : IsSound S) (sound' : IsSound T) (same : SameRules S T) where
  live_to : (c : ℕ) (line_start : Bool) (w : List ℕ) → c < length T.conditions → IsText w → Live S c line_start w ↔ Live T c line_start w
  live_to c line_start w lt text = (
    λ (u, is_text, some, i, k, fits). (u, is_text, some, i, k, (same.fits c line_start (w ++ u) i k (omega (arith, lt, same.conditions)) (is_text_append w u text is_text)).0 fits),
    λ (u, is_text, some, i, k, fits). (u, is_text, some, i, k, (same.fits c line_start (w ++ u) i k (omega (arith, lt, same.conditions)) (is_text_append w u text is_text)).1 fits),
  )

  statements_to : (i : ℕ) → i < length T.rules → statements_at (slice_get S.rules i) ≡ statements_at (slice_get T.rules i)
  statements_to i lt =
      let r = get_at S.rules i (omega (arith, lt, same.rules)) in
      let q = get_at T.rules i lt in
      ap statements_at r.1 ∙ (same.actions i r.0 q.0 r.1 q.1).1 ∙ sym (ap statements_at q.1)

  begins_to : (i : ℕ) → i < length T.rules → BeginsBelow (length T.conditions) (statements_at (slice_get T.rules i))
  begins_to i lt = let r = get_at T.rules i lt in subst (λ o. BeginsBelow (length T.conditions) (statements_at o)) (sym r.1) (begins_below (length T.conditions) r.0.statements (sound'.rules i r.0 r.1).legal.0.ranges)

  pub rules_alike : Alike true (rules_of S) (rules_of T)
  rules_alike = record {
    count = same.rules;
    statements = statements_to;
    begins = begins_to;
    ending = λ c lt. same.ending c;
    some_condition = sound'.some_condition;
    live = live_to;
    full = λ c line_start w i k lt text h. (same.fits c line_start w i k (omega (arith, lt, same.conditions)) text).0 h;
    matches = λ c line_start w i k lt text h. (same.fits c line_start w i k (omega (arith, lt, same.conditions)) text).1 h;
    exist = λ c line_start y. (let r = candidates_exist T sound' c line_start y in (r.0, r.2));
  }

-- Their scans are the same.
pub same_over : (S T : Spec) → IsSound S → IsSound T → SameRules S T → (x : List ℕ) → IsText x → SameOver (rules_of S) (rules_of T) x
same_over S T sound sound' same x text = record {
  turns = λ n s. (λ h. (turns_to true (rules_of S) (rules_of T) on x n s text h).0, λ h. (turns_to true (rules_of T) (rules_of S) back x n s text h).0);
  after = λ n s asked. (λ h. after_to true (rules_of S) (rules_of T) on x text n s asked h, λ h. after_to true (rules_of T) (rules_of S) back x text n s asked h);
  run = λ w d. (λ h. run_to true (rules_of S) (rules_of T) on x text w d h, λ h. run_to true (rules_of T) (rules_of S) back x text w d h);
}
  where
    on : Alike true (rules_of S) (rules_of T)
    on = rules_alike S T sound sound' same

    back : Alike true (rules_of T) (rules_of S)
    back = rules_alike T S sound' sound (turned_round S T same)

-- What they answer is the same.

same_rejecting : (rs qs : List Rule) → length rs ≡ length qs → ((i : ℕ) (r q : Rule) → slice_get rs i ≡ Some r → slice_get qs i ≡ Some q → r.statements ≡ q.statements) → any_reject rs ≡ any_reject qs
same_rejecting [] [] e h = refl
same_rejecting [] (q ∷ qs) e h = absurd (omega (arith, e))
same_rejecting (r ∷ rs) [] e h = absurd (omega (arith, e))
same_rejecting (r ∷ rs) (q ∷ qs) e h =
    let first : has_reject r.statements ≡ has_reject q.statements = ap has_reject (h 0 r q refl refl) in
    let later : any_reject rs ≡ any_reject qs = same_rejecting rs qs (omega (arith, e)) (λ i a b p k. h (suc i) a b p k) in
    ap (λ z. z || any_reject rs) first ∙ ap (λ z. has_reject q.statements || z) later

module _ (S T : Spec) (same : SameRules S T) where
  live_on : (c : ℕ) (line_start : Bool) (w : List ℕ) → c < length S.conditions → IsText w → Live S c line_start w → Live T c line_start w
  live_on c line_start w lt text (u, is_text, some, i, k, fits) = (u, is_text, some, i, k, (same.fits c line_start (w ++ u) i k lt (is_text_append w u text is_text)).0 fits)

  fit_on : (c : ℕ) (line_start : Bool) (w : List ℕ) (i : ℕ) → c < length S.conditions → IsText w → HasFit S c line_start w i → HasFit T c line_start w i
  fit_on c line_start w i lt text h = (h.0, (same.fits c line_start w i h.0 lt text).0 h.1)

  fit_back : (c : ℕ) (line_start : Bool) (w : List ℕ) (i : ℕ) → c < length S.conditions → IsText w → HasFit T c line_start w i → HasFit S c line_start w i
  fit_back c line_start w i lt text h = (h.0, (same.fits c line_start w i h.0 lt text).1 h.1)

  rejects_on : rejects S ≡ rejects T
  rejects_on = same_rejecting S.rules T.rules same.rules (λ i r q p k. (same.actions i r q p k).1)

  accepted_on : (c : ℕ) (line_start : Bool) (w : List ℕ) (i : ℕ) → c < length S.conditions → IsText w → Accepted S c line_start w i → Accepted T c line_start w i
  accepted_on c line_start w i lt text h = (fit_on c line_start w i lt text h.0, λ e j less k. h.1 (rejects_on ∙ e) j less (fit_back c line_start w j lt text k))

  report_on : (i : ℕ) → Useless S i → Useless T i
  report_on i (known, h) = (
    omega (arith, known, same.rules),
    λ c line_start w lt text k. (
        let below : c < length S.conditions = omega (arith, lt, same.conditions) in
        let (none, j, less, earlier) = h c line_start w below text (fit_back c line_start w i below text k) in
        (sym rejects_on ∙ none, j, less, fit_on c line_start w j below text earlier)),
  )

  back_word_on : (c : ℕ) (line_start : Bool) (w : List ℕ) → BackWord S c line_start w → BackWord T c line_start w
  back_word_on c line_start w h = record {
    condition = omega (arith, h.condition, same.conditions);
    text = h.text;
    two_or_more = h.two_or_more;
    goes_on = live_on c line_start w h.condition h.text h.goes_on;
    fits_none = λ i k. h.fits_none i (fit_back c line_start w i h.condition h.text k);
  }

pub same_answers : (S T : Spec) → SameRules S T → SameAnswers S T
same_answers S T same = record {
  live = λ c line_start w lt text. (λ h. live_on S T same c line_start w lt text h, λ h. live_on T S back c line_start w (below c lt) text h);
  accepted = λ c line_start w i lt text. (
    λ h. accepted_on S T same c line_start w i lt text h,
    λ h. accepted_on T S back c line_start w i (below c lt) text h,
  );
  rejecting = rejecting;
  useless = λ i. (λ h. report_on S T same i h, λ h. report_on T S back i h);
  back_words = λ c line_start w. (λ h. back_word_on S T same c line_start w h, λ h. back_word_on T S back c line_start w h);
}
  where
    back : SameRules T S
    back = turned_round S T same

    rejecting : rejects S ≡ rejects T
    rejecting = rejects_on S T same

    below : (c : ℕ) → c < length S.conditions → c < length T.conditions
    below c lt = omega (arith, lt, same.conditions)
