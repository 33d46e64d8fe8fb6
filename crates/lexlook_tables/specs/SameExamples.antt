-- Worked examples of what two machines do alike: by rules, and of a single byte by the default rule too.
use Rattle.std.specs.Prelude.{ℕ, suc, false, List, [], ◌∷◌, codes, nat_eq, if◌then◌else◌}
use Rattle.lex_semantics.specs.Spec.{Cut, Whole, Trail, Statement, Echo, Print, Reject}
use Rattle.lex_semantics.specs.Machine.{Machine}
use Rattle.lexlook_tables.specs.Same.{Agree}

-- its state after a text is the text's length, and in that state it accepts these rules
abbrev pub by_length : ℕ → (ℕ → List ℕ) → Cut → (ℕ → List Statement) → Machine
by_length count accepts cut statements = record {
  conditions = 1;
  count = count;
  start = λ c line_start. 0;
  next = λ s b. suc s;
  accepts = accepts;
  goes_on = λ s. false;
  cut = λ i. if nat_eq i 0 then cut else Whole;
  statements = statements;
  ending = λ c. record { print = []; status = 0 };
}

-- these rules for texts of n bytes
abbrev pub of_length : ℕ → List ℕ → ℕ → List ℕ
of_length n rules s = if nat_eq s n then rules else []

abbrev pub ruleless : Machine
ruleless = by_length 0 (λ s. []) Whole (λ i. [])

-- one rule for texts of n bytes, with this cut and this action
abbrev pub single_rule : ℕ → Cut → List Statement → Machine
single_rule n cut ss = by_length 1 (of_length n (0 ∷ [])) cut (λ i. ss)

-- two rules, with these actions, of which the first has this cut
abbrev pub two_rules : ℕ → Cut → List Statement → List Statement → Machine
two_rules n cut ss ts = by_length 2 (of_length n (0 ∷ 1 ∷ [])) cut (λ i. if nat_eq i 0 then ss else ts)

abbrev pub Agreeing : Machine → Machine → List ℕ → Type 0
Agreeing M N w = Agree [] M N 0 false w

abbrev pub Differing : Machine → Machine → List ℕ → Type 0
Differing M N w = Agree [] M N 0 false w → ⊥

abbrev pub prints_p : List Statement
prints_p = Print (codes "p") ∷ []

abbrev pub declines : List Statement
declines = Print (codes "r") ∷ Reject ∷ []

pub record SameExamples : Type 0 where
  -- the default rule copies a byte, as a rule with ECHO does, and no longer text
  pub copied : Agreeing (single_rule 1 Whole (Echo ∷ [])) ruleless (codes "x")
  pub longer_copied : Differing (single_rule 2 Whole (Echo ∷ [])) ruleless (codes "xx")
  pub unmatched : Agreeing (single_rule 1 Whole prints_p) ruleless (codes "xx")
  -- it comes behind a rule, which does something else
  pub printed : Differing (single_rule 1 Whole prints_p) ruleless (codes "x")
  pub silent : Differing (single_rule 1 Whole []) ruleless (codes "x")
  -- it follows a REJECT, as another rule does
  pub rejected : Agreeing (single_rule 1 Whole declines) (two_rules 1 Whole declines (Echo ∷ [])) (codes "x")
  pub rejected_longer : Differing (single_rule 2 Whole declines) (two_rules 2 Whole declines (Echo ∷ [])) (codes "xx")
  pub rejected_twice : Differing (single_rule 1 Whole declines) (two_rules 1 Whole declines prints_p) (codes "x")
  -- a rule without REJECT leaves nothing to the next, but where its trailing context may leave it no text
  pub taken : Agreeing (single_rule 2 Whole prints_p) (two_rules 2 Whole prints_p (Echo ∷ [])) (codes "xx")
  pub cut : Differing (single_rule 2 (Trail 2) prints_p) (two_rules 2 (Trail 2) prints_p (Echo ∷ [])) (codes "xx")
