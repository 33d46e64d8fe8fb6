-- Conditions by their numbers, names and places.
use Rattle.std.proofs.Common.{◌≡◌, ◌∙◌, ◌<◌, ◌++◌, ℕ, zero, suc, List, [], ◌∷◌, length, map, get_or, Option, Some, flat_map, refl, ap, sym, arith}
use Rattle.std.specs.Prelude.{slice_get}
use Rattle.lex_semantics.specs.Spec as S
use Rattle.lexspec_lines.specs.Lines.{without_returns}
use Rattle.lexlook_text.specs.DeclaredNames.{declared_conditions}
use Rattle.lexlook_check.specs.Conditions.{condition_notices, declared_notices}
use Rattle.lexlook_check.specs.Findings.{known_lines}
use Rattle.lexlook_check.specs.declared.notices.Notice.{Notice}
use Rattle.lexspec_actions.specs.Names.{names_of}
use Rattle.lexspec_actions.specs.Views.{condition_of}
use Rattle.lexspec_actions.specs.declared.condition.Condition.{Condition}

-- the names stay as they are
pub named : (cs : List Condition) → names_of cs ≡ map (λ (k : S.Condition). k.name) (map condition_of cs)
named [] = refl
named (c ∷ cs) = ap (λ (ns : List (List ℕ)). c.name.items ∷ ns) (named cs)

-- the one with this number
pub numbered : (cs : List Condition) (i : ℕ) (x : Condition) → i < length cs → x ≡ get_or cs i x → slice_get (map condition_of cs) i ≡ Some (condition_of x)
numbered [] i x h e = absurd (omega (arith, h))
numbered (c ∷ cs) zero x h e = ap (λ (z : Condition). Some (condition_of z)) (sym e)
numbered (c ∷ cs) (suc i) x h e = numbered cs i x (omega (arith, h)) e

-- what is warned of at the places that a text declares
pub placed : (spec : S.Spec) (copied : List (Option ℕ)) (text : List ℕ) (old next : List Notice) (lines : List (ℕ × List ℕ)) (places : List (ℕ × ℕ × List ℕ)) → lines ≡ known_lines (without_returns text) → places ≡ declared_conditions lines
    → next ≡ old ++ flat_map (declared_notices spec copied) places → next ≡ old ++ condition_notices spec copied text
placed spec copied text old next lines places read are h =
    h ∙ ap (λ (ps : List (ℕ × ℕ × List ℕ)). old ++ flat_map (declared_notices spec copied) ps) (are ∙ ap declared_conditions read)
