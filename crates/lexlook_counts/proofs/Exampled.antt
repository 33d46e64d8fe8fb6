-- How far the matches of an example look, where its walks lead, and the matches of another one.
use Rattle.std.proofs.Common.{◌≡◌, ◌⊎◌, ℕ, ◌+◌, ◌≤◌, ◌<◌, zero, suc, true, false, List, [], ◌∷◌, codes, length, take, drop, inl, inr, arith, refl, length-drop, true≢false}
use Rattle.std.proofs.lemmas.List.{length-take-le}
use Rattle.lex_semantics.specs.ByteSets.{has, set_of, single}
use Rattle.lex_semantics.specs.Candidates.{Candidate, Candidates}
use Rattle.lex_semantics.specs.Demand.{AsksAt}
use Rattle.lex_semantics.specs.Examples as E
use Rattle.lex_semantics.specs.Rules.{rules_of}
use Rattle.lex_semantics.proofs.PlainRun.{candidates_are}
use Rattle.lex_semantics.specs.Machine.{walk}
use Rattle.lexlook_counts.specs.CountExamples.{letters_machine, three_asked}
use Rattle.lexlook_counts.specs.Costs.{LooksAt, begins_at}

pub three_reach : (x : List ℕ) (at r : ℕ) → at + r ≤ length x → (r ≡ 3) ⊎ ((r ≤ 3) × (at + r ≡ length x)) → 1 ≤ r → LooksAt three_asked x (begins_at at 0) r
three_reach x at r inside far some j = (λ less. (omega (arith, inside, less), to j (omega (arith, inside, less)) far less), λ (lt, a). from j lt far a)
  where
    size : (i : ℕ) → at + i < length x → length (take i (drop at x)) ≡ i
    size i lt = let n = length-drop at x in length-take-le i (drop at x) (omega (arith, n, lt))

    to : (i : ℕ) → at + i < length x → (r ≡ 3) ⊎ ((r ≤ 3) × (at + r ≡ length x)) → i < r → AsksAt three_asked x (begins_at at 0) i
    to i lt (inl three) less = let n = size i lt in inr (omega (arith, n, three, less))
    to i lt (inr few) less = let n = size i lt in inr (omega (arith, n, few.0, less))

    from : (i : ℕ) → at + i < length x → (r ≡ 3) ⊎ ((r ≤ 3) × (at + r ≡ length x)) → AsksAt three_asked x (begins_at at 0) i → i < r
    from i lt far (inl first) = omega (arith, first, some)
    from i lt (inl three) (inr live) = let n = size i lt in omega (arith, n, three, live)
    from i lt (inr few) (inr live) = omega (arith, lt, few.1)

-- a match that is all text
abbrev whole : ℕ → ℕ → Candidate
whole n i = record { len = n; rule = i; keep = n }

-- the matches of `a+ REJECT;` and `aa ;` at three bytes, and at one behind another
pub at_three : Candidates (rules_of (E.many_or_two true)) 0 true (codes "aaa") (whole 3 0 ∷ whole 2 0 ∷ whole 2 1 ∷ whole 1 0 ∷ whole 1 2 ∷ [])
unfolding has set_of single
at_three = candidates_are (E.many_or_two true) 0 true (codes "aaa") _ refl

pub at_one : Candidates (rules_of (E.many_or_two true)) 0 false (codes "a") (whole 1 0 ∷ whole 1 2 ∷ [])
unfolding has set_of single
at_one = candidates_are (E.many_or_two true) 0 false (codes "a") _ refl

-- the machine goes on after each letter a
pub over_two : (i : ℕ) → 1 ≤ i → i < 3 → letters_machine.goes_on (walk letters_machine 1 (take i (codes "aab"))) ≡ true
over_two zero some lt = absurd (omega (arith, some))
over_two (suc zero) some lt = refl
over_two (suc (suc zero)) some lt = refl
over_two (suc (suc (suc i))) some lt = absurd (omega (arith, lt))

pub over_one : (i : ℕ) → 1 ≤ i → i < 2 → letters_machine.goes_on (walk letters_machine 1 (take i (codes "aa"))) ≡ true
over_one zero some lt = absurd (omega (arith, some))
over_one (suc zero) some lt = refl
over_one (suc (suc i)) some lt = absurd (omega (arith, lt))

pub one≢zero : suc zero ≡ zero → ⊥
one≢zero e = omega (arith, e)

-- it does not stop between two of them
pub stopped_none : (suc (suc zero) ≡ 3) ⊎ ((1 ≤ 2) × (true ≡ false)) → ⊥
stopped_none (inl e) = omega (arith, e)
stopped_none (inr e) = true≢false e.1
