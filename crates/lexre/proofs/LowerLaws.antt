-- Where more may be opened, and where fewer.
use Rattle.std.proofs.Common.{◌++◌, ◌≡◌, ℕ, zero, suc, ◌-◌, ◌≤◌, Bool, true, false, nat_lt, if◌then◌else◌, List, [], ◌∷◌, Option, Some, None, ap, ◌∙◌, refl, subst, arith}
use Rattle.std.specs.FinMap.{get}
use Rattle.lex_semantics.specs.Tree.{Tree}
use Rattle.lexre_bytes.specs.Lexical.{symbol_at}
use Rattle.lexre_bytes.specs.Symbols.{Symbol, item, name, opening, closing, bar, sign, Lexer}
use Rattle.lexre.specs.Definitions.{Definitions}
use Rattle.lexre.specs.Grammar.{IsItem, IsSeries, IsPattern, alone, group, defines, first, next, repeated, repeated_whole, only, choice, SpellsWithin}
use Rattle.lexre.specs.Reading.{SpellsIn, StandsIn, StepsIn, lowered}
use Rattle.lexre.specs.Running.{series_tree, choice_tree, how_many, one_more, frame, fresh, State, state, push, pushed, onto_last, gathered, opened, finished, step_of}
use Rattle.lexre.specs.declared.options.ReadOptions.{ReadOptions}
use Rattle.lexre.proofs.OneTree.{some_is}
use Rattle.lexre.proofs.ReaderLaws.{left_of, stands_in, steps_name}

-- What is read where fewer may be opened is read where more may be.
module _ (posix : Bool) (symbol_at : Lexer) (defined : List ℕ → Option (List ℕ)) where
  mutual
    item_rises : (d e : ℕ) (ss : List Symbol) (t : Tree) → IsItem posix symbol_at defined d ss t → d ≤ e → IsItem posix symbol_at defined e ss t
    item_rises _ e _ _ (alone d t) h = alone e t
    item_rises _ zero _ _ (group d ss ts inside) h = absurd (omega arith)
    item_rises _ (suc e) _ _ (group d ss ts inside) h = group e ss ts (pattern_rises d e ss ts inside (omega arith))
    item_rises _ zero _ _ (defines d n text ss ts found cut inside) h = absurd (omega arith)
    item_rises _ (suc e) _ _ (defines d n text ss ts found cut inside) h = defines e n text ss ts found cut (pattern_rises d e ss ts inside (omega arith))

    series_rises : (d e : ℕ) (ss : List Symbol) (ts : List Tree) (n : ℕ) (k : Option ℕ) → IsSeries posix symbol_at defined d ss ts n k → d ≤ e
        → IsSeries posix symbol_at defined e ss ts n k
    series_rises _ e _ _ _ _ (first d ss t it) h = first e ss t (item_rises d e ss t it h)
    series_rises _ e _ _ _ _ (next d ss ts n k more t before it) h = next e ss ts n k more t (series_rises d e ss ts n k before h) (item_rises d e more t it h)
    series_rises _ e _ _ _ _ (repeated d ss ts t n k braces f bare before below) h =
        repeated e ss ts t n k braces f bare (series_rises d e ss (ts ++ t ∷ []) n (Some k) before h) below
    series_rises _ e _ _ _ _ (repeated_whole d ss ts n k braces f over which before below) h =
        repeated_whole e ss ts n k braces f over which (series_rises d e ss ts n k before h) below

    pattern_rises : (d e : ℕ) (ss : List Symbol) (ts : List Tree) → IsPattern posix symbol_at defined d ss ts → d ≤ e → IsPattern posix symbol_at defined e ss ts
    pattern_rises _ e _ _ (only d ss parts n k series) h = only e ss parts n k (series_rises d e ss parts n k series h)
    pattern_rises _ e _ _ (choice d ss ts more parts n k before series) h =
        choice e ss ts more parts n k (pattern_rises d e ss ts before h) (series_rises d e more parts n k series h)

  pub spelled_rises : (d e : ℕ) (text : List ℕ) (t : Tree) → SpellsWithin posix symbol_at defined d text t → d ≤ e → SpellsWithin posix symbol_at defined e text t
  spelled_rises d e text t (ss, ts, cut, is, same) h = (ss, ts, cut, pattern_rises d e ss ts is h, same)

pub stands_rises : (how : ReadOptions) (definitions : Definitions) (d e : ℕ) (n : List ℕ) (t : Tree) → StandsIn how definitions d n t → d ≤ e → StandsIn how definitions e n t
stands_rises how definitions zero e n t stands h = absurd stands
stands_rises how definitions (suc d) zero n t stands h = absurd (omega arith)
stands_rises how definitions (suc d) (suc e) n t (text, found, spells) h =
    (text, found, spelled_rises how.posix (symbol_at how.fold) (get definitions) d e text t spells (omega arith))

-- a name needs one more than its substitute
pub spared_name : (how : ReadOptions) (definitions : Definitions) (left spare : ℕ) (n sub : List ℕ) (t : Tree) → (left ≡ 0 → ⊥) → spare ≤ left - 1 → get definitions n ≡ Some sub
    → SpellsIn how definitions (left - 1 - spare) sub t → StandsIn how definitions (left - spare) n t
spared_name how definitions left spare n sub t some fits found spells =
    let some' : left - spare ≡ 0 → ⊥ = λ e. some (omega arith) in
    let same : left - 1 - spare ≡ left - spare - 1 = omega arith in
    let P : ℕ → Type 0 = λ x. SpellsIn how definitions x sub t in
    stands_in how definitions (left - spare) n sub t some' found (subst P same spells)

-- A state where fewer may be opened.

pushed_lower : (e : ℕ) (t : Tree) (st : State) → push t (lowered e st) ≡ lowered e (push t st)
pushed_lower e t (state here outer d) = refl

pub finished_lower : (e : ℕ) (st : State) → finished (lowered e st) ≡ finished st
finished_lower e (state (frame done parts None k) outer d) = refl
finished_lower e (state (frame done parts (Some t) k) [] d) = refl
finished_lower e (state (frame done parts (Some t) k) (f ∷ fs) d) = refl

onto_lower : (e : ℕ) (f : Tree → Tree) (st after : State) → onto_last f st ≡ Some after → onto_last f (lowered e st) ≡ Some (lowered e after)
onto_lower e f (state (frame done parts None k) outer d) after is = cc
onto_lower e f (state (frame done parts (Some t) k) outer d) after is = go (nat_lt (how_many k) 64) is
  where
    go : (b : Bool) → (if b then Some (state (frame done parts (Some (f t)) (one_more k)) outer d) else None) ≡ Some after
        → (if b then Some (state (frame done parts (Some (f t)) (one_more k)) outer (d - e)) else None) ≡ Some (lowered e after)
    go true is = ap (λ x. Some (lowered e x)) (some_is _ _ is)
    go false is = cc

gathered_lower : (e : ℕ) (posix : Bool) (st : State) → gathered posix (lowered e st) ≡ lowered e (gathered posix st)
gathered_lower e posix (state (frame done parts None k) outer d) = refl
gathered_lower e posix (state (frame done parts (Some t) k) outer d) = refl

pub step_lower : (posix : Bool) (e : ℕ) (s : Symbol) (st after : State) → e ≤ left_of st → e ≤ left_of after → step_of posix s st ≡ Some after
    → step_of posix s (lowered e st) ≡ Some (lowered e after)
step_lower posix e (item t) st after h h' is = ap Some (pushed_lower e t st) ∙ ap (λ x. Some (lowered e x)) (some_is _ _ is)
step_lower posix e (name n) st after h h' is = cc
step_lower posix e opening (state here outer zero) after h h' is = cc
step_lower posix e opening (state here outer (suc d)) after h h' is =
    let same : state fresh (here ∷ outer) d ≡ after = some_is _ _ is in
    let fits : e ≤ d = omega (arith, ap left_of same) in
    let less : suc d - e ≡ suc (d - e) = omega arith in
    ap (λ x. opened (state here outer x)) less ∙ ap (λ x. Some (lowered e x)) same
step_lower posix e closing (state (frame done parts (Some t) k) (f ∷ fs) d) after h h' is =
    let less : suc (d - e) ≡ suc d - e = omega arith in
    ap (λ x. Some (state (pushed (choice_tree done (series_tree parts t)) f) fs x)) less ∙ ap (λ x. Some (lowered e x)) (some_is _ _ is)
step_lower posix e closing (state (frame done parts (Some t) k) [] d) after h h' is = cc
step_lower posix e closing (state (frame done parts None k) outer d) after h h' is = cc
step_lower posix e bar (state (frame done parts None k) outer d) after h h' is = cc
step_lower posix e bar (state (frame done parts (Some t) k) outer d) after h h' is = ap (λ x. Some (lowered e x)) (some_is _ _ is)
step_lower posix e (sign false f) st after h h' is = onto_lower e f st after is
step_lower posix e (sign true f) st after h h' is = ap (onto_last f) (gathered_lower e posix st) ∙ onto_lower e f (gathered posix st) after is

pub name_lower : (how : ReadOptions) (definitions : Definitions) (e spare : ℕ) (st after : State) (n : List ℕ) (t : Tree) → e ≤ spare
    → StandsIn how definitions (left_of st - spare) n t → Some (push t st) ≡ Some after → StepsIn how definitions (lowered e st) (name n) (lowered e after)
name_lower how definitions e spare (state here outer d) after n t h stands is =
    steps_name how definitions (state here outer (d - e)) (lowered e after) n t (stands_rises how definitions (d - spare) (d - e) n t stands (omega arith))
    (ap (λ x. Some (lowered e x)) (some_is _ _ is))
