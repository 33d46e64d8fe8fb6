-- Actions in normal form, as the code puts statements at the end. (This project's.)
use Rattle.std.specs.Prelude.{ℕ, List, [], ◌∷◌, ◌++◌}
use Rattle.lex_semantics.specs.Spec.{Statement, Print}
pub use Rattle.lex_machine.specs.Literals.{literal_bytes}

-- a literal after the statements: dropped where it is empty, and joined with one that stands last
abbrev pub then_print : List Statement → List ℕ → List Statement
then_print ss [] = ss
then_print [] (b ∷ bs) = Print (b ∷ bs) ∷ []
then_print (Print front ∷ []) (b ∷ bs) = Print (front ++ b ∷ bs) ∷ []
then_print (s ∷ []) (b ∷ bs) = s ∷ Print (b ∷ bs) ∷ []
then_print (s ∷ t ∷ ss) (b ∷ bs) = s ∷ then_print (t ∷ ss) (b ∷ bs)

abbrev pub then_one : List Statement → Statement → List Statement
then_one ss (Print bs) = then_print ss bs
then_one ss s = ss ++ s ∷ []

-- more statements after those in normal form
abbrev pub then_all : List Statement → List Statement → List Statement
then_all before [] = before
then_all before (s ∷ ss) = then_all (then_one before s) ss
