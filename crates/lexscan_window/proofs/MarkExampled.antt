-- The worked examples of marks.
use Rattle.std.proofs.Common.{◌≡◌, ℕ, zero, suc, ◌≤◌, ◌<◌, true, false, take, inl, refl, arith}
use Rattle.std.specs.Prelude.{codes}
use Rattle.lex_semantics.specs.Machine.{walk}
use Rattle.lex_machine.specs.QuietExamples.{letters}
use Rattle.lex_machine.proofs.QuietExampled.{none_after_two}
use Rattle.lexscan_window.specs.MarkExamples.{MarkExamples}

-- the letters over which each walk goes on
goes : (i : ℕ) → 1 ≤ i → i < 2 → letters.goes_on (walk letters 1 (take i (codes "aa"))) ≡ true
goes zero some lt = absurd (omega (arith, some))
goes (suc zero) some lt = refl
goes (suc (suc i)) some lt = absurd (omega (arith, lt))

pub mark_examples : MarkExamples
mark_examples = record {
  fits = λ h. (h refl).0 0 (inl refl) 2 2 refl;
  left_out = λ g. (none_after_two, λ g. refl);
  wants_more = λ h. absurd (no ((h refl).1 refl));
  stopped = λ g. (none_after_two, λ g. (λ i a n k keeps. a, λ stops. absurd (no stops)));
  over_two = (refl, λ some. refl, goes);
  not_before = λ h. absurd (two (h.1 (omega arith)));
  over_none = (refl, λ some. absurd (omega (arith, some)), λ i some lt. absurd (omega (arith, some, lt)));
  past_the_end = λ h. absurd (no (h.2 1 (omega arith) (omega arith)));
  to_the_last = (omega arith, (refl, λ some. refl, goes), λ g. (λ i a n k keeps. a, λ stops. absurd (no stops)));
  not_the_last = λ h. (h.2 refl).0 0 (inl refl) 3 3 refl;
  too_few = λ h. absurd (omega (arith, h.0));
}
  where
    no : false ≡ true → ⊥
    no e = cc

    two : ◌≡◌ {A = ℕ} 1 2 → ⊥
    two e = omega (arith, e)
