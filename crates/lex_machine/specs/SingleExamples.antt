-- Worked examples of matches of one byte each.
use Rattle.std.specs.Prelude.{true, cond, [], ◌∷◌, ◌==◌}
use Rattle.lex_semantics.specs.Spec.{Echo, Print, Whole}
use Rattle.lex_semantics.specs.Machine.{Machine}
use Rattle.lex_machine.specs.Singles.{IsDropped, IsCopied, Singles}

-- Of the rules `[a\n\0] ;`, `b ECHO;`, `c printf("A");`, `d+ ;` and `ef ;`: state 1 is the start, 2 to 6 come after one
-- byte, and 0 after any other. In condition 1 this is so at the start of a line alone, and elsewhere nothing matches.
abbrev pub alphabet : Machine
alphabet = record {
  conditions = 2;
  count = 5;
  start = λ c line_start. cond (c == 0) 1 (cond line_start 1 0);
  next = λ s b. cond (s == 1)
      (cond (b == 97) 2 (cond (b == 10) 2 (cond (b == 0) 2 (cond (b == 98) 3 (cond (b == 99) 4 (cond (b == 100) 5
      (cond (b == 101) 6 0)))))))
      (cond (s == 5) (cond (b == 100) 5 0) (cond (s == 6) (cond (b == 102) 7 0) 0));
  accepts = λ s. cond (s == 2) (0 ∷ []) (cond (s == 3) (1 ∷ []) (cond (s == 4) (2 ∷ []) (cond (s == 5) (3 ∷ [])
      (cond (s == 7) (4 ∷ []) []))));
  goes_on = λ s. cond (s == 1) true (cond (s == 5) true (s == 6));
  cut = λ i. Whole;
  statements = λ i. cond (i == 1) (Echo ∷ []) (cond (i == 2) (Print (65 ∷ []) ∷ []) []);
  ending = λ c. record { print = []; status = 0 };
}

-- `a` is dropped; `b` and a byte that no rule takes are copied; `c` is neither, nor is a byte after which a longer text
-- may match. Singles end before such a byte, and where the next match starts elsewhere.
pub record SingleExamples : Type 0 where
  pub a : IsDropped alphabet 1 97
  pub b_writes : IsDropped alphabet 1 98 → ⊥
  pub no_rule : IsDropped alphabet 1 120 → ⊥
  pub d_goes_on : IsDropped alphabet 1 100 → ⊥
  pub b : IsCopied alphabet 1 98
  pub other : IsCopied alphabet 1 120
  pub a_writes_nothing : IsCopied alphabet 1 97 → ⊥
  pub c_writes_more : IsCopied alphabet 1 99 → ⊥
  pub e_goes_on : IsCopied alphabet 1 101 → ⊥
  pub two : Singles IsDropped alphabet 0 1 (97 ∷ 97 ∷ 100 ∷ []) 2
  pub not_three : Singles IsDropped alphabet 0 1 (97 ∷ 97 ∷ 100 ∷ []) 3 → ⊥
  pub no_more : Singles IsDropped alphabet 0 1 (97 ∷ []) 2 → ⊥
  pub newline : Singles IsDropped alphabet 1 1 (10 ∷ []) 1
  pub elsewhere : Singles IsDropped alphabet 1 1 (97 ∷ []) 1 → ⊥
