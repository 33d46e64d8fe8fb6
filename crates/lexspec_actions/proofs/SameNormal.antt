-- The normal form from the right is that from the left.
use Rattle.std.proofs.Common.{◌≡◌, ℕ, List, [], ◌∷◌, ◌++◌, refl, sym, ap, ◌∙◌, append_assoc, append-nil}
use Rattle.lex_semantics.specs.Spec.{Statement, Print}
use Rattle.lex_semantics.specs.Literals.{prepend, normal}
use Rattle.lexspec_actions.specs.Statements.{then_print, then_one, then_all}

-- a statement before others, and a literal after them
both_prints : (t : Statement) (y : List Statement) (c : ℕ) (cs : List ℕ) → then_print (prepend t y) (c ∷ cs) ≡ prepend t (then_print y (c ∷ cs))
both_prints (Print []) y c cs = refl
both_prints (Print (b ∷ bs)) [] c cs = refl
both_prints (Print (b ∷ bs)) (Print more ∷ []) c cs = ap (λ x. Print (b ∷ x) ∷ []) (append_assoc bs more (c ∷ cs))
both_prints (Print (b ∷ bs)) (Print more ∷ u ∷ us) c cs = refl
both_prints (Print (b ∷ bs)) (s ∷ []) c cs = refl
both_prints (Print (b ∷ bs)) (s ∷ u ∷ us) c cs = refl
both_prints t [] c cs = refl
both_prints t (u ∷ us) c cs = refl

-- a statement before others, and one after them
both_others : (t : Statement) (y : List Statement) (s : Statement) → ((bs : List ℕ) → s ≡ Print bs → ⊥) → prepend t y ++ s ∷ [] ≡ prepend t (y ++ s ∷ [])
both_others (Print []) y s other = refl
both_others (Print (b ∷ bs)) [] (Print more) other = absurd (other more refl)
both_others (Print (b ∷ bs)) [] s other = refl
both_others (Print (b ∷ bs)) (Print more ∷ us) s other = refl
both_others (Print (b ∷ bs)) (u ∷ us) s other = refl
both_others t y s other = refl

both : (t : Statement) (y : List Statement) (s : Statement) → then_one (prepend t y) s ≡ prepend t (then_one y s)
both t y (Print []) = refl
both t y (Print (c ∷ cs)) = both_prints t y c cs
both t y s = both_others t y s (λ bs e. cc)

one_normal : (xs : List Statement) (s : Statement) → then_one (normal xs) s ≡ normal (xs ++ s ∷ [])
one_normal [] (Print []) = refl
one_normal [] (Print (b ∷ bs)) = refl
one_normal [] s = refl
one_normal (t ∷ xs) s = both t (normal xs) s ∙ ap (prepend t) (one_normal xs s)

all_normal : (xs ss : List Statement) → then_all (normal xs) ss ≡ normal (xs ++ ss)
all_normal xs [] = ap normal (sym (append-nil xs))
all_normal xs (s ∷ ss) = ap (λ x. then_all x ss) (one_normal xs s) ∙ all_normal (xs ++ s ∷ []) ss ∙ ap normal (append_assoc xs (s ∷ []) ss)

pub normal_is : (ss : List Statement) → normal ss ≡ then_all [] ss
normal_is ss = sym (all_normal [] ss)
