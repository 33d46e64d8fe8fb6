-- The worked example of the only state that leads to another.
use Rattle.std.specs.Prelude.{◌≡◌, ℕ, ◌<◌, ◌==◌, Bool, true, false, cond}
use Rattle.std.proofs.Common.{zero, suc, refl, arith}
use Rattle.lex_machine.specs.GlanceExamples.{GlanceExamples}

abbrev after : ℕ → Bool → ℕ
after q letter = cond letter (cond (q == 0) 0 (cond (q == 1) 2 3)) 0

-- one letter comes from the start alone
one_letter : (q : ℕ) (letter : Bool) → q < 4 → after q letter ≡ 2 → q ≡ 1
one_letter zero true below e = absurd (omega (arith, e))
one_letter (suc zero) true below e = refl
one_letter (suc (suc zero)) true below e = absurd (omega (arith, e))
one_letter (suc (suc (suc zero))) true below e = absurd (omega (arith, e))
one_letter (suc (suc (suc (suc q)))) true below e = absurd (omega (arith, below))
one_letter q false below e = absurd (omega (arith, e))

-- of the first three states one leads to the third
third : (q : ℕ) (letter : Bool) → q < 3 → after q letter ≡ 3 → q ≡ 2
third zero true below e = absurd (omega (arith, e))
third (suc zero) true below e = absurd (omega (arith, e))
third (suc (suc zero)) true below e = refl
third (suc (suc (suc q))) true below e = absurd (omega (arith, below))
third q false below e = absurd (omega (arith, e))

-- nothing leads to the start
no_start : (q : ℕ) (letter : Bool) → q < 4 → after q letter ≡ 1 → q ≡ 0
no_start zero true below e = refl
no_start (suc zero) true below e = absurd (omega (arith, e))
no_start (suc (suc zero)) true below e = absurd (omega (arith, e))
no_start (suc (suc (suc zero))) true below e = absurd (omega (arith, e))
no_start (suc (suc (suc (suc q)))) true below e = absurd (omega (arith, below))
no_start q false below e = absurd (omega (arith, e))

pub glance_examples : GlanceExamples
glance_examples = record {
  first_letter = λ q b below byte e. one_letter q (b == 97) below e;
  more_letters = λ only. absurd (omega (arith, only 3 97 (omega (arith)) (omega (arith)) refl));
  of_three = λ q b below byte e. third q (b == 97) below e;
  nor_itself = λ only. absurd (omega (arith, only 2 97 (omega (arith)) (omega (arith)) refl));
  start = λ q b below byte e. no_start q (b == 97) below e;
}
