-- Whether some rule of a table has REJECT.
use Rattle.std.proofs.Common.{◌≡◌, ℕ, zero, suc, ◌<◌, Bool, true, false, ◌||◌, List, [], ◌∷◌, length, refl, arith}
use Rattle.std.specs.Prelude.{slice_get}
use Rattle.std.proofs.lemmas.Bool.{or_parts, false≢true}
use Rattle.lex_semantics.specs.Spec.{has_reject}
use Rattle.lextab_packed.specs.Table.{RuleOfTable}
use Rattle.lextab_packed.specs.Checks.{some_rule_rejects}
use Rattle.lextab_packed.proofs.Finding.{statements_at}

pub none_rejects : (rules : List RuleOfTable) → some_rule_rejects rules ≡ false → (i : ℕ) → i < length rules → has_reject (statements_at (slice_get rules i)) ≡ false
none_rejects [] e i h = absurd (omega (arith, h))
none_rejects (r ∷ rs) e zero h = (or_parts (has_reject r.statements) (some_rule_rejects rs) e).0
none_rejects (r ∷ rs) e (suc i) h = none_rejects rs (or_parts (has_reject r.statements) (some_rule_rejects rs) e).1 i (omega (arith, h))

one_of : (r : RuleOfTable) (rs : List RuleOfTable) (b : Bool) → has_reject r.statements ≡ b → (b || some_rule_rejects rs) ≡ true → (some_rule_rejects rs ≡ true → (i : ℕ) × (i < length rs) × (has_reject (statements_at (slice_get rs i)) ≡ true)) →
    (i : ℕ) × (i < length (r ∷ rs)) × (has_reject (statements_at (slice_get (r ∷ rs) i)) ≡ true)
one_of r rs true is e later = (0, omega arith, is)
one_of r rs false is e later = let k = later e in (suc k.0, omega (arith, k.1), k.2)

pub some_rejects : (rules : List RuleOfTable) → some_rule_rejects rules ≡ true → (i : ℕ) × (i < length rules) × (has_reject (statements_at (slice_get rules i)) ≡ true)
some_rejects [] e = absurd (false≢true e)
some_rejects (r ∷ rs) e = one_of r rs (has_reject r.statements) refl e (λ h. some_rejects rs h)
