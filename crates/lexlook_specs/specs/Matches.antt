-- Which rule takes a text, and what the default rule copies. (POSIX, lex, Actions in lex.)
use Rattle.std.specs.Prelude.{◌≡◌, ℕ, ◌≤◌, ◌<◌, Bool, true, false, List, length, take, slice_get}
use Rattle.lex_semantics.specs.Text.{IsText, Among, flag}
use Rattle.lex_semantics.specs.Spec.{Spec, has_reject, statements_at}
use Rattle.lex_semantics.specs.Reports.{HasFit}
use Rattle.lexauto_dfa.specs.Parts.{conditions, start, accepts, after}
use Rattle.lexauto_dfa.specs.declared.dfa.Parts.{Parts}

-- what is asked of rules, whether a specification tells it or an automaton
pub record RuleMatches : Type 1 where
  pub conditions : ℕ
  pub count : ℕ
  -- in this condition, at the start of a line or not, the text fits the rule, with its trailing context
  pub fits : ℕ → Bool → List ℕ → ℕ → Type 0
  -- the action of the rule has REJECT
  pub gives_up : ℕ → Bool

abbrev pub matches_of : Spec → RuleMatches
matches_of S = record {
  conditions = length S.conditions;
  count = length S.rules;
  fits = HasFit S;
  gives_up = λ i. has_reject (statements_at (slice_get S.rules i));
}

-- the same of an automaton that accepts all rules that fit, with the flags of the rules that have REJECT
abbrev pub matches_in : Parts → List Bool → RuleMatches
matches_in p rejects = record {
  conditions = conditions p;
  count = length rejects;
  fits = λ c line w i. Among (accepts p (after p (start p c line) w)) i;
  gives_up = flag rejects;
}

-- a text that is not empty, in one of the conditions
pub record IsInput (m : RuleMatches) (c : ℕ) (w : List ℕ) : Type 0 where
  pub condition : c < m.conditions
  pub text : IsText w
  pub some : 1 ≤ length w

-- The rule takes the text: it fits, and each earlier rule that fits gives it up by REJECT. (POSIX, lex, Actions in lex:
-- the rule that was given first; REJECT goes on to the next.)
abbrev pub TakesText : RuleMatches → ℕ → Bool → List ℕ → ℕ → Type 0
TakesText m c line w i = m.fits c line w i × ((j : ℕ) → j < i → m.fits c line w j → m.gives_up j ≡ true)

-- Some text fits rule i, but rule j takes it and does not give it up.
abbrev pub TakesOf : RuleMatches → ℕ → ℕ → Type 0
TakesOf m i j =
    (c : ℕ) × (line : Bool) × (w : List ℕ) × IsInput m c w × m.fits c line w i × TakesText m c line w j
    × (m.gives_up j ≡ false)

-- each rule that fits the text gives it up
abbrev pub IsGivenUp : RuleMatches → ℕ → Bool → List ℕ → Type 0
IsGivenUp m c line w = (i : ℕ) → m.fits c line w i → m.gives_up i ≡ true

-- The default rule copies the first byte of the text: no rule keeps a front of it. (POSIX, lex, Actions in lex: input
-- that matches no pattern is copied.)
abbrev pub CopiesFirst : RuleMatches → ℕ → Bool → List ℕ → Type 0
CopiesFirst m c line y = (n : ℕ) → 1 ≤ n → n ≤ length y → IsGivenUp m c line (take n y)
