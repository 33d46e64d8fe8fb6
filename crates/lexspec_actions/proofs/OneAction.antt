-- A text spells at most one list of statements.
use Rattle.std.proofs.Common.{◌≡◌, ℕ, List, [], ◌∷◌, Some, refl, sym, ap, ◌∙◌, subst}
use Rattle.lex_semantics.specs.Reading.{Reader, IsReadAs}
use Rattle.lex_semantics.specs.Spec.{Statement}
use Rattle.lexspec_actions.specs.Statements.{then_all}
use Rattle.lexspec_actions.specs.Names.{Scope}
use Rattle.lexspec_actions.specs.Actions.{SpellsStatements}
use Rattle.lexspec_actions.specs.ActionSteps as Steps
use Rattle.lexspec_actions.specs.ActionSteps.{piece_at, statements_of, NoPiece}
use Rattle.lexspec_actions.proofs.GrammarLaws.{to_steps}
use Rattle.lexspec_actions.proofs.ActionLemmas.{no_piece}

some_is : {A : Type 0} (x y : A) → Some x ≡ Some y → x ≡ y
some_is x y e = cc

-- items of any kind: a text is cut in at most one way, where nothing that is done begins with an item
pub one_cut : {A : Type 0} (item_at : Reader A) (Done : List ℕ → Type 0) → ((t : List ℕ) (x : A) (rest : List ℕ) → Done t → item_at t ≡ Some (x, rest) → ⊥)
    → (text : List ℕ) (xs ys : List A) → IsReadAs item_at Done text xs → IsReadAs item_at Done text ys → xs ≡ ys
one_cut item_at Done stops text [] [] done end = refl
one_cut item_at Done stops text [] (y ∷ ys) done (rest, here, cut) = absurd (stops text y rest done here)
one_cut item_at Done stops text (x ∷ xs) [] (rest, here, cut) done = absurd (stops text x rest done here)
one_cut {A} item_at Done stops text (x ∷ xs) (y ∷ ys) (rest, here, cut) (left, there, more) =
    let same = some_is {A = A × List ℕ} (x, rest) (y, left) (sym here ∙ there) in
    let first : x ≡ y = ap (λ (p : A × List ℕ). p.0) same in
    let P : List ℕ → Type 0 = λ t. IsReadAs item_at Done t xs in
    let others = one_cut item_at Done stops left xs ys (subst P (ap (λ (p : A × List ℕ). p.1) same) cut) more in
    cc

one_of_steps : (known : Scope) (text : List ℕ) (ss ss' : List Statement) → Steps.SpellsStatements known text ss → Steps.SpellsStatements known text ss' → ss ≡ ss'
one_of_steps known text ss ss' (ps, cut, balanced, same) (qs, cut', balanced', same') =
    let e = one_cut (piece_at known) NoPiece (λ t p rest done here. no_piece known t p rest here done) text ps qs cut cut' in
    same ∙ ap (λ xs. then_all [] (statements_of xs)) e ∙ sym same'

pub one_statements : (known : Scope) (text : List ℕ) (ss ss' : List Statement) → SpellsStatements known text ss → SpellsStatements known text ss' → ss ≡ ss'
one_statements known text ss ss' h k = one_of_steps known text ss ss' (to_steps known text ss h) (to_steps known text ss' k)
