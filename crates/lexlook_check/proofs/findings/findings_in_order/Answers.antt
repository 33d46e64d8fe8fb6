use Rattle.std.proofs.Common.{◌≡◌, List, rules, subst}
use Rattle.std.specs.Prelude.{unwrap_or}
use Rattle.std.specs.List.Sorted.{IsPermutation}
use Rattle.std.proofs.lemmas.Fn.{always_returns_same}
use Rattle.std.proofs.lemmas.List.Sorted.{IsNonDecreasingBy-from_sort_by_key, IsPermutation-trans}
use Rattle.lexlook_check.specs.declared.findings.Finding.{Finding}
use Rattle.lexlook_check.proofs.OrderLaws.{ordered}
use Rattle.lexlook_check.proofs.findings.findings_in_order.Goals as goal

pub returns : goal.returns
returns c =
    let xs = c.sort_by_key.new.self.items in
    let ys = c.sort_by_key-2.new.self.items in
    let rise = IsNonDecreasingBy-from_sort_by_key (λ (f : Finding). f.line) ys c.in_ok-sort_by_key-2.ensures.sorted (λ a r q k. search rules) in
    let first = c.in_ok-sort_by_key.ensures.sorted (λ (f : Finding). unwrap_or f.at 0) (always_returns_same _ (λ a r. r ≡ unwrap_or a.0.now.at 0) _ (λ a r q k. search rules)) in
    let stable = c.in_ok-sort_by_key-2.ensures.stable (λ (f : Finding). f.line) (always_returns_same _ (λ a r. r ≡ a.0.now.line) _ (λ a r q k. search rules)) in
    record {
      same = IsPermutation-trans _ _ _ (subst (λ (l : List Finding). IsPermutation l xs) c.in_ok-told.ensures c.in_ok-sort_by_key.ensures.permutation) c.in_ok-sort_by_key-2.ensures.permutation;
      ordered = ordered xs ys rise first stable;
    }
