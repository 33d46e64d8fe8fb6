-- Worked examples of rules that do nothing but REJECT.
use Rattle.std.specs.Prelude.{◌≡◌, true, false, cond, [], ◌∷◌, ◌==◌}
use Rattle.lex_semantics.specs.Spec.{Echo, Begin, Reject, Print, Whole}
use Rattle.lex_semantics.specs.Machine.{Machine}
use Rattle.lex_machine.specs.Quiets.{only_rejects, quiet, NoneFits}

-- Of the rules `a+ REJECT;` and `a printf("A");`: state 1 is the start, 2 comes after one letter, 3 after more.
abbrev pub letters : Machine
letters = record {
  conditions = 1;
  count = 2;
  start = λ c line_start. 1;
  next = λ s b. cond (b == 97) (cond (s == 0) 0 (cond (s == 1) 2 3)) 0;
  accepts = λ s. cond (s == 2) (0 ∷ 1 ∷ []) (cond (s == 3) (0 ∷ []) []);
  goes_on = λ s. cond (s == 0) false true;
  cut = λ i. Whole;
  statements = λ i. cond (i == 0) (Reject ∷ []) (Print (65 ∷ []) ∷ []);
  ending = λ c. record { print = []; status = 0 };
}

-- What stands before REJECT is done. After more than one letter no rule fits in the quiet machine.
pub record QuietExamples : Type 0 where
  pub alone : only_rejects (Reject ∷ []) ≡ true
  pub written : only_rejects (Echo ∷ Reject ∷ []) ≡ false
  pub printed : only_rejects (Print (65 ∷ []) ∷ Reject ∷ []) ≡ false
  pub set : only_rejects (Begin 0 ∷ Reject ∷ []) ≡ false
  pub nothing : only_rejects [] ≡ false
  pub letter : NoneFits (quiet letters) 2 → ⊥
  pub letters_alone : NoneFits (quiet letters) 3
  pub given_up : NoneFits letters 3 → ⊥
  pub still_goes_on : (quiet letters).goes_on 3 ≡ true
  pub still_accepts : (quiet letters).accepts 3 ≡ 0 ∷ []
  pub does_nothing : (quiet letters).statements 0 ≡ []
  pub still_prints : (quiet letters).statements 1 ≡ Print (65 ∷ []) ∷ []
