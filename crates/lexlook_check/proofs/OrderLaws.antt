-- Two stable sorts, by the place in a line and then by the line.
use Rattle.std.proofs.Common.{◌≡◌, ℕ, ◌+◌, ◌<◌, List, length, get_or, inl, inr, arith}
use Rattle.std.specs.Prelude.{unwrap_or}
use Rattle.std.specs.Ordering.{nat_cmp}
use Rattle.std.specs.List.Sorted.{IsNonDecreasingBy, IsSortedByKey, IsStableByKey}
use Rattle.std.proofs.lemmas.Bool.{cases_lt}
use Rattle.std.proofs.lemmas.List.Sorted.{ties_still_rise}
use Rattle.lexlook_check.specs.Findings.{IsNotBehind}
use Rattle.lexlook_check.specs.declared.findings.Finding.{Finding}

pub ordered : (xs ys : List Finding) → IsNonDecreasingBy (λ f. f.line) ys → IsSortedByKey (λ f. unwrap_or f.at 0) nat_cmp xs → IsStableByKey (λ f. f.line) nat_cmp xs ys
    → (k : ℕ) (d : Finding) → k + 1 < length ys → IsNotBehind (get_or ys k d) (get_or ys (k + 1) d)
ordered xs ys rise first stable k d within = elim (cases_lt (get_or ys k d).line (get_or ys (k + 1) d).line) [
  | inl y ↦ inl y
  | inr n ↦
      let up = rise k (k + 1) d (omega arith) within in
      let same : (get_or ys k d).line ≡ (get_or ys (k + 1) d).line = omega (arith, up, n) in
      inr (same, ties_still_rise (λ f. unwrap_or f.at 0) (λ f. f.line) xs ys first stable k d within same)
]
