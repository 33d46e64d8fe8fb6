-- A machine accepts rules of its own alone, also where the action of each is REJECT.
use Rattle.std.proofs.Common.{◌≡◌, ◌∙◌, ℕ, ◌<◌, length, ap, subst, sym}
use Rattle.std.proofs.lemmas.List.{length-map}
use Rattle.lex_semantics.specs.Machine.{Machine}
use Rattle.lex_semantics.specs.MachineLaws.{MachineLaws}
use Rattle.lex_semantics.specs.Spec.{Spec}
use Rattle.lex_semantics.specs.Text.{Among}
use Rattle.lexlook_specs.specs.Rejecting.{rejecting, rejecting_rule}

-- there are as many rules
pub as_many : (S T : Spec) → T ≡ rejecting S → length S.rules ≡ length T.rules
as_many S T is = sym (ap (λ (U : Spec). length U.rules) is ∙ length-map S.rules rejecting_rule)

pub accepts_known : (M : Machine) (n : ℕ) → MachineLaws M → n ≡ M.count → (s i : ℕ) → Among (M.accepts s) i → i < n
accepts_known M n laws count s i a = subst (λ (k : ℕ). i < k) (sym count) (laws.in_range s i a)
