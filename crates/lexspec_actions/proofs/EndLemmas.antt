-- The statements of an end action, by their cases.
use Rattle.std.proofs.Common.{◌≡◌, ℕ, List, [], ◌∷◌, ◌⊎◌, inl, inr, Some, None, refl, sym, ap, ◌∙◌, subst}
use Rattle.lex_semantics.specs.Spec.{EndAction, Statement, Print, End}
use Rattle.lex_semantics.specs.Literals.{prepend, normal}
use Rattle.lexspec_actions.specs.ActionSteps.{end_of}

-- a literal and an end, or a literal alone
abbrev pub Ends : List Statement → EndAction → Type 0
Ends ss e = (ss ≡ normal (Print e.print ∷ End e.status ∷ [])) ⊎ ((ss ≡ normal (Print e.print ∷ [])) × (e.status ≡ 0))

with_end : (bs : List ℕ) (n : ℕ) → end_of (normal (Print bs ∷ End n ∷ [])) ≡ Some (record { print = bs; status = n })
with_end [] n = refl
with_end (b ∷ bs) n = refl

without_end : (bs : List ℕ) → end_of (normal (Print bs ∷ [])) ≡ Some (record { print = bs; status = 0 })
without_end [] = refl
without_end (b ∷ bs) = refl

pub end_is : (ss : List Statement) (e : EndAction) → Ends ss e → end_of ss ≡ Some e
end_is ss e (inl h) = ap end_of h ∙ with_end e.print e.status
end_is ss e (inr (h, zero)) = ap end_of h ∙ without_end e.print ∙ ap (λ n. Some (record { print = e.print; status = n })) (sym zero)

-- no literal is empty in normal form
full_first : (s : Statement) (ss rest : List Statement) → ((left : List Statement) → ss ≡ Print [] ∷ left → ⊥) → prepend s ss ≡ Print [] ∷ rest → ⊥
full_first (Print []) ss rest h e = h rest e
full_first (Print (b ∷ bs)) [] rest h e = cc
full_first (Print (b ∷ bs)) (Print more ∷ ss) rest h e = cc
full_first (Print (b ∷ bs)) (s ∷ ss) rest h e = cc
full_first s ss rest h e = cc

all_full : (xs rest : List Statement) → normal xs ≡ Print [] ∷ rest → ⊥
all_full [] rest e = cc
all_full (s ∷ xs) rest e = full_first s (normal xs) rest (all_full xs) e

pub end_told : (xs ss : List Statement) (e : EndAction) → ss ≡ normal xs → end_of ss ≡ Some e → Ends ss e
end_told xs [] e same is = let found : record { print = []; status = 0 } ≡ e = cc in subst (Ends []) found (inr (refl, refl))
end_told xs (Print [] ∷ ss) e same is = absurd (all_full xs ss (sym same))
end_told xs (Print (b ∷ bs) ∷ []) e same is =
    let found : record { print = b ∷ bs; status = 0 } ≡ e = cc in subst (Ends (Print (b ∷ bs) ∷ [])) found (inr (refl, refl))
end_told xs (End n ∷ []) e same is = let found : record { print = []; status = n } ≡ e = cc in subst (Ends (End n ∷ [])) found (inl refl)
end_told xs (Print (b ∷ bs) ∷ End n ∷ []) e same is =
    let found : record { print = b ∷ bs; status = n } ≡ e = cc in subst (Ends (Print (b ∷ bs) ∷ End n ∷ [])) found (inl refl)
end_told xs _ e same is = absurd (none is)
  where
    none : None ≡ Some e → ⊥
    none p = cc
