-- Which rules have REJECT where those that only reject are left out.
use Rattle.std.proofs.Common.{◌≡◌, ℕ, zero, suc, ◌<◌, Bool, true, false, ◌||◌, List, [], ◌∷◌, length, get_or, inl, inr, refl, sym, ◌∙◌, subst, arith}
use Rattle.std.specs.Prelude.{slice_get, ◌&&◌, not, if◌then◌else◌}
use Rattle.std.proofs.lemmas.Bool.{and_parts, or_parts, false≢true}
use Rattle.lex_semantics.specs.Text.{Among}
use Rattle.lex_semantics.specs.Spec.{Cut, Head, Statement, has_reject}
use Rattle.lex_semantics.specs.Machine.{Machine, Keeps}
use Rattle.lex_machine.specs.Quiets.{only_rejects, quiet, NoneFits}
use Rattle.lextab_packed.specs.Table.{RuleOfTable}
use Rattle.lextab_packed.specs.Rejections.{acts_and_rejects, some_rule_acts_and_rejects, all_only_reject}
use Rattle.lextab_packed.proofs.Finding.{statements_at}

abbrev without : List Statement → List Statement
without ss = if only_rejects ss then [] else ss

-- an action without those that only reject
loud_is : (h b : Bool) (ss : List Statement) → has_reject ss ≡ h → has_reject (if b then [] else ss) ≡ (h && not b)
loud_is true true ss e = refl
loud_is false true ss e = refl
loud_is true false ss e = e
loud_is false false ss e = e

loud_at : (ss : List Statement) → has_reject (without ss) ≡ (has_reject ss && not (only_rejects ss))
loud_at ss = loud_is (has_reject ss) (only_rejects ss) ss refl

pub none_loud : (rules : List RuleOfTable) → some_rule_acts_and_rejects rules ≡ false → (i : ℕ) → i < length rules → has_reject (without (statements_at (slice_get rules i))) ≡ false
none_loud [] e i h = absurd (omega (arith, h))
none_loud (r ∷ rs) e zero h = loud_at r.statements ∙ (or_parts (acts_and_rejects r) (some_rule_acts_and_rejects rs) e).0
none_loud (r ∷ rs) e (suc i) h = none_loud rs (or_parts (acts_and_rejects r) (some_rule_acts_and_rejects rs) e).1 i (omega (arith, h))

one_loud : (r : RuleOfTable) (rs : List RuleOfTable) (b : Bool) → acts_and_rejects r ≡ b → (b || some_rule_acts_and_rejects rs) ≡ true
    → (some_rule_acts_and_rejects rs ≡ true → (i : ℕ) × (i < length rs) × (has_reject (without (statements_at (slice_get rs i))) ≡ true)) →
    (i : ℕ) × (i < length (r ∷ rs)) × (has_reject (without (statements_at (slice_get (r ∷ rs) i))) ≡ true)
one_loud r rs true is e later = (0, omega arith, loud_at r.statements ∙ is)
one_loud r rs false is e later = let k = later e in (suc k.0, omega (arith, k.1), k.2)

pub some_loud : (rules : List RuleOfTable) → some_rule_acts_and_rejects rules ≡ true → (i : ℕ) × (i < length rules) × (has_reject (without (statements_at (slice_get rules i))) ≡ true)
some_loud [] e = absurd (false≢true e)
some_loud (r ∷ rs) e = one_loud r rs (acts_and_rejects r) refl e (λ h. some_loud rs h)

-- a rule that only rejects keeps none of a match
keeps_none : (b : Bool) (cut : Cut) (n k : ℕ) → b ≡ true → Keeps (if b then Head 0 else cut) n k → ⊥
keeps_none true cut n k is h = absurd (omega (arith, h.1))
keeps_none false cut n k is h = absurd (false≢true is)

pub only_quiet : (M : Machine) (s : ℕ) → ((i : ℕ) → Among (M.accepts s) i → only_rejects (M.statements i) ≡ true) → NoneFits (quiet M) s
only_quiet M s h i a n k keeps = keeps_none (only_rejects (M.statements i)) (M.cut i) n k (h i a) keeps

-- each of them
pub all_of : (M : Machine) (rules : List ℕ) → all_only_reject M rules ≡ true → (i : ℕ) → Among rules i → only_rejects (M.statements i) ≡ true
all_of M [] h i a = absurd a
all_of M (r ∷ rs) h i (inl e) = subst (λ j. only_rejects (M.statements j) ≡ true) (sym e) (and_parts (only_rejects (M.statements r)) (all_only_reject M rs) h).0
all_of M (r ∷ rs) h i (inr a) = all_of M rs (and_parts (only_rejects (M.statements r)) (all_only_reject M rs) h).1 i a

-- an element of a list

pub among_at : (xs : List ℕ) (i : ℕ) → i < length xs → Among xs (get_or xs i 0)
among_at [] i lt = absurd (omega (arith, lt))
among_at (x ∷ xs) zero lt = inl refl
among_at (x ∷ xs) (suc i) lt = inr (among_at xs i (omega (arith, lt)))
