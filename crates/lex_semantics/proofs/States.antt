-- How many states a machine has, and whether its rules have REJECT.
use Rattle.std.proofs.Common.{◌≡◌, ℕ, zero, suc, ◌<◌, Bool, true, false, ◌||◌, List, [], ◌∷◌, length, refl, ◌∙◌, ap, arith}
use Rattle.std.specs.Prelude.{slice_get}
use Rattle.std.proofs.lemmas.Bool.{or_parts}
use Rattle.lex_semantics.specs.Text.{IsText}
use Rattle.lex_semantics.specs.Spec.{Spec, Rule, has_reject, any_reject, rejects, statements_at}
use Rattle.lex_semantics.specs.Machine.{Machine, walk, state_after}
use Rattle.lex_semantics.specs.MachineLaws.{StaysBelow, Rejects}
use Rattle.lex_semantics.specs.TableFor.{TableFor}

walk_below : (M : Machine) (n s : ℕ) → StaysBelow M n → s < n → (w : List ℕ) → IsText w → walk M s w < n
walk_below M n s stays lt [] text = lt
walk_below M n s stays lt (b ∷ w) text = walk_below M n (M.next s b) stays (stays.next s b lt text.0) w text.1

pub states_below : (M : Machine) (n : ℕ) → StaysBelow M n → (c : ℕ) (line_start : Bool) (w : List ℕ) → c < M.conditions → IsText w → state_after M c line_start w < n
states_below M n stays c line_start w lt text = walk_below M n (M.start c line_start) stays (stays.start c line_start lt) w text

pub none_rejects : (rules : List Rule) → any_reject rules ≡ false → (i : ℕ) → i < length rules → has_reject (statements_at (slice_get rules i)) ≡ false
none_rejects [] e i h = absurd (omega (arith, h))
none_rejects (r ∷ rs) e zero h = (or_parts (has_reject r.statements) (any_reject rs) e).0
none_rejects (r ∷ rs) e (suc i) h = none_rejects rs (or_parts (has_reject r.statements) (any_reject rs) e).1 i (omega (arith, h))

one_of : (r : Rule) (rs : List Rule) (b : Bool) → has_reject r.statements ≡ b → (b || any_reject rs) ≡ true → (any_reject rs ≡ true → (i : ℕ) × (i < length rs) × (has_reject (statements_at (slice_get rs i)) ≡ true)) →
    (i : ℕ) × (i < length (r ∷ rs)) × (has_reject (statements_at (slice_get (r ∷ rs) i)) ≡ true)
one_of r rs true is e later = (0, omega arith, is)
one_of r rs false is e later = let k = later e in (suc k.0, omega (arith, k.1), k.2)

pub some_rejects : (rules : List Rule) → any_reject rules ≡ true → (i : ℕ) × (i < length rules) × (has_reject (statements_at (slice_get rules i)) ≡ true)
some_rejects [] e = absurd (no e)
  where
    no : false ≡ true → ⊥
    no p = cc
some_rejects (r ∷ rs) e = one_of r rs (has_reject r.statements) refl e (λ h. some_rejects rs h)

-- A table has REJECT where its specification has it.
pub table_rejects : (M : Machine) (S : Spec) → TableFor M S → Rejects M (rejects S)
table_rejects M S table = from (rejects S) refl
  where
    from : (b : Bool) → rejects S ≡ b → Rejects M b
    from false e = λ i lt. (let below : i < length S.rules = omega (arith, lt, table.count) in ap has_reject (table.statements i below) ∙ none_rejects S.rules e i below)
    from true e = let k = some_rejects S.rules e in (k.0, omega (arith, k.1, table.count), ap has_reject (table.statements k.0 k.1) ∙ k.2)
