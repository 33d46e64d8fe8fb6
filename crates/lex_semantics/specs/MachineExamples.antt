-- Worked examples of machines, one for each specification of the same name: how far they ask after each turn, and where
-- the text starts.
use Rattle.std.specs.Prelude.{◌≡◌, ℕ, Bool, false, ◌&&◌, ◌||◌, List, [], ◌∷◌, codes, nat_eq, nat_le, if◌then◌else◌}
use Rattle.lex_semantics.specs.ByteSets.{within}
use Rattle.lex_semantics.specs.Spec.{Cut, Whole, Head, Statement, Echo, Print, Less, Reject, End}
use Rattle.lex_semantics.specs.Machine.{Machine}
use Rattle.lex_semantics.specs.PlainMachine.{told_of}

-- the bytes taken and the text's start, after each turn
abbrev pub HasTurnRows : Machine → (input : List ℕ) → List (ℕ × ℕ) → Type 0
HasTurnRows M input rows = told_of M input 20 ≡ rows

abbrev pub machine : ℕ → (ℕ → ℕ → ℕ) → (ℕ → List ℕ) → (ℕ → Bool) → (ℕ → Cut) → (ℕ → List Statement) → Machine
machine count next accepts goes_on cut statements = record {
  conditions = 1;
  count = count;
  start = λ c line_start. 1;
  next = next;
  accepts = accepts;
  goes_on = goes_on;
  cut = cut;
  statements = statements;
  ending = λ c. record { print = []; status = 0 };
}

abbrev pub whole : ℕ → Cut
whole i = Whole

-- no rules: 0 is the start
abbrev pub nothing : Machine
nothing = record {
  conditions = 1;
  count = 0;
  start = λ c line_start. 0;
  next = λ s b. 0;
  accepts = λ s. [];
  goes_on = λ s. false;
  cut = whole;
  statements = λ i. [];
  ending = λ c. record { print = []; status = 0 };
}

-- no match, and an action of two literals
abbrev pub prints_twice : Machine
prints_twice = machine 1 (λ s b. 0) (λ s. []) (λ s. false) whole (λ i. Print (codes "a") ∷ Print (codes "b") ∷ [])

-- 1 is the start, 2 after a, 3 after ab
abbrev pub exit_after_ab : Machine
exit_after_ab = machine 1 (λ s b. if nat_eq s 1 && nat_eq b 97 then 2 else (if nat_eq s 2 && nat_eq b 98 then 3 else 0))
    (λ s. if nat_eq s 3 then 0 ∷ [] else []) (λ s. nat_eq s 1 || nat_eq s 2) whole (λ i. End 7 ∷ [])

-- 1 is the start, 2 after a and any number of b
abbrev pub exit_after_bs : Machine
exit_after_bs = machine 1 (λ s b. if nat_eq s 1 && nat_eq b 97 then 2 else (if nat_eq s 2 && nat_eq b 98 then 2 else 0))
    (λ s. if nat_eq s 2 then 0 ∷ [] else []) (λ s. nat_eq s 1 || nat_eq s 2) whole (λ i. End 7 ∷ [])

-- 1 is the start, 2 after i, 3 after if, 4 after a digit, 5 after two
abbrev pub keys : Machine
keys = machine 2
    (λ s b. if nat_eq s 1 && nat_eq b 105 then 2
    else (if nat_eq s 2 && nat_eq b 102 then 3
    else (if nat_eq s 1 && within 48 57 b then 4 else (if nat_eq s 4 && within 48 57 b then 5 else 0))))
    (λ s. if nat_eq s 3 then 0 ∷ [] else (if nat_eq s 5 then 1 ∷ [] else []))
    (λ s. nat_eq s 1 || nat_eq s 2 || nat_eq s 4) whole
    (λ i. if nat_eq i 0 then Print (codes "K") ∷ [] else Print (codes "N") ∷ [])

-- 1 is the start, 2 after a, 3 after ab, 4 after abc
abbrev pub abc : Machine
abc = machine 1
    (λ s b. if nat_eq s 1 && nat_eq b 97 then 2
    else (if nat_eq s 2 && nat_eq b 98 then 3 else (if nat_eq s 3 && nat_eq b 99 then 4 else 0)))
    (λ s. if nat_eq s 4 then 0 ∷ [] else []) (λ s. nat_eq s 1 || nat_eq s 2 || nat_eq s 3) whole
    (λ i. Print (codes "X") ∷ [])

-- 1 is the start, 2 to 5 after the bytes of abcd
abbrev pub before_cd : Machine
before_cd = machine 1
    (λ s b. if nat_eq s 1 && nat_eq b 97 then 2
    else (if nat_eq s 2 && nat_eq b 98 then 3
    else (if nat_eq s 3 && nat_eq b 99 then 4 else (if nat_eq s 4 && nat_eq b 100 then 5 else 0))))
    (λ s. if nat_eq s 5 then 0 ∷ [] else []) (λ s. nat_eq s 1 || nat_eq s 2 || nat_eq s 3 || nat_eq s 4) (λ i. Head 2)
    (λ i. Print (codes "[") ∷ Echo ∷ Print (codes "]") ∷ [])

-- 1 is the start, 2 after letters
abbrev pub one_by_one : Machine
one_by_one = machine 1 (λ s b. if (nat_eq s 1 || nat_eq s 2) && nat_le 97 b && nat_le b 122 then 2 else 0)
    (λ s. if nat_eq s 2 then 0 ∷ [] else []) (λ s. nat_eq s 1 || nat_eq s 2) whole (λ i. Less 1 ∷ [])

-- 1 is the start, 2 after a, 3 after two, 4 after more; the first rule has REJECT
abbrev pub many_or_two : Machine
many_or_two = machine 2
    (λ s b. if nat_eq b 97 && nat_eq s 1 then 2
    else (if nat_eq b 97 && nat_eq s 2 then 3 else (if nat_eq b 97 && (nat_eq s 3 || nat_eq s 4) then 4 else 0)))
    (λ s. if nat_eq s 3 then 0 ∷ 1 ∷ [] else (if nat_eq s 2 || nat_eq s 4 then 0 ∷ [] else []))
    (λ s. nat_le 1 s && nat_le s 4) whole
    (λ i. if nat_eq i 0 then Reject ∷ [] else [])
