-- Statements at the end of others.
use Rattle.std.proofs.Common.{◌≡◌, ℕ, List, [], ◌∷◌, ◌++◌, length, map, refl, sym, ap, ◌∙◌, Vec, Global}
use Rattle.std.proofs.lemmas.List.{map_push}
use Rattle.lexspec_actions.specs.Views.{statement_of}
use Rattle.lex_machine.specs.declared.action.Statement as Declared
use Rattle.lex_machine.specs.declared.action.Statement.TheVariants as R
use Rattle.lex_semantics.specs.Spec.{Statement, Echo, Print, Begin, More, Less, Reject, End, Push, Pop}
use Rattle.lexspec_actions.specs.Statements.{then_print}

pub onto_print : (ss : List Statement) (front : List ℕ) (b : ℕ) (bs : List ℕ) → then_print (ss ++ Print front ∷ []) (b ∷ bs) ≡ ss ++ Print (front ++ b ∷ bs) ∷ []
onto_print [] front b bs = refl
onto_print (s ∷ []) front b bs = refl
onto_print (s ∷ t ∷ ss) front b bs = ap (λ x. s ∷ x) (onto_print (t ∷ ss) front b bs)

-- it is no literal
abbrev pub IsOther : Statement → Type 0
IsOther (Print bs) = ⊥
IsOther _ = Unit {0}

pub onto_other : (ss : List Statement) (s : Statement) (b : ℕ) (bs : List ℕ) → IsOther s → then_print (ss ++ s ∷ []) (b ∷ bs) ≡ (ss ++ s ∷ []) ++ Print (b ∷ bs) ∷ []
onto_other [] (Print x) b bs h = absurd h
onto_other [] Echo b bs h = refl
onto_other [] (Begin c) b bs h = refl
onto_other [] More b bs h = refl
onto_other [] (Less n) b bs h = refl
onto_other [] Reject b bs h = refl
onto_other [] (End n) b bs h = refl
onto_other [] (Push c) b bs h = refl
onto_other [] Pop b bs h = refl
onto_other (t ∷ []) s b bs h = ap (λ x. t ∷ x) (onto_other [] s b bs h)
onto_other (t ∷ u ∷ ss) s b bs h = ap (λ x. t ∷ x) (onto_other (u ∷ ss) s b bs h)

pub joined_is : (old mid : List Statement) (front bs : List ℕ) → old ≡ mid ++ Print front ∷ [] → (length bs ≡ 0 → ⊥) → mid ++ Print (front ++ bs) ∷ [] ≡ then_print old bs
joined_is old mid front [] e some = absurd (some refl)
joined_is old mid front (b ∷ bs) e some = sym (ap (λ x. then_print x (b ∷ bs)) e ∙ onto_print mid front b bs)

pub other_is : (old mid : List Statement) (s : Statement) (bs : List ℕ) → old ≡ mid ++ s ∷ [] → IsOther s → (length bs ≡ 0 → ⊥) → (mid ++ s ∷ []) ++ Print bs ∷ [] ≡ then_print old bs
other_is old mid s [] e is some = absurd (some refl)
other_is old mid s (b ∷ bs) e is some = sym (ap (λ x. then_print x (b ∷ bs)) e ∙ onto_other mid s b bs is)

pub print_joined : (old mid new : List Declared.Statement) (last : Declared.Statement) (front joined bytes : Vec ℕ Global) → old ≡ mid ++ last ∷ [] → last ≡ R.Print front → new ≡ mid ++ R.Print joined ∷ [] → joined.items ≡ front.items ++ bytes.items → (length bytes.items ≡ 0 → ⊥)
    → map statement_of new ≡ then_print (map statement_of old) bytes.items
print_joined old mid new last front joined bytes e is f more some =
    let before : map statement_of old ≡ map statement_of mid ++ Print front.items ∷ [] = ap (map statement_of) e ∙ map_push statement_of mid last ∙ ap (λ x. map statement_of mid ++ statement_of x ∷ []) is in
    let after : map statement_of new ≡ map statement_of mid ++ Print joined.items ∷ [] = ap (map statement_of) f ∙ map_push statement_of mid (R.Print joined) in
    after ∙ ap (λ x. map statement_of mid ++ Print x ∷ []) more ∙ joined_is (map statement_of old) (map statement_of mid) front.items bytes.items before some

other_of : (s : Declared.Statement) → ((v : Vec ℕ Global) → s ≡ R.Print v → ⊥) → IsOther (statement_of s)
other_of R.Echo h = tt
other_of (R.Print v) h = h v refl
other_of (R.Begin c) h = tt
other_of R.More h = tt
other_of (R.Less n) h = tt
other_of R.Reject h = tt
other_of (R.End n) h = tt
other_of (R.Push c) h = tt
other_of R.Pop h = tt

pub print_other : (old mid put new : List Declared.Statement) (last : Declared.Statement) (bytes : Vec ℕ Global) → old ≡ mid ++ last ∷ [] → ((v : Vec ℕ Global) → last ≡ R.Print v → ⊥) → put ≡ mid ++ last ∷ [] → new ≡ put ++ R.Print bytes ∷ [] → (length bytes.items ≡ 0 → ⊥)
    → map statement_of new ≡ then_print (map statement_of old) bytes.items
print_other old mid put new last bytes e other f g some =
    let before : map statement_of old ≡ map statement_of mid ++ statement_of last ∷ [] = ap (map statement_of) e ∙ map_push statement_of mid last in
    let between : map statement_of put ≡ map statement_of mid ++ statement_of last ∷ [] = ap (map statement_of) f ∙ map_push statement_of mid last in
    let after : map statement_of new ≡ map statement_of put ++ Print bytes.items ∷ [] = ap (map statement_of) g ∙ map_push statement_of put (R.Print bytes) in
    after ∙ ap (λ x. x ++ Print bytes.items ∷ []) between ∙ other_is (map statement_of old) (map statement_of mid) (statement_of last) bytes.items before (other_of last other) some
