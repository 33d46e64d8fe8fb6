-- States whose first rule sets a start condition, does yymore, and no more. (flex, Actions.)
use Rattle.std.specs.Prelude.{◌≡◌, ℕ, List, [], ◌∷◌, Option, None, get_or}
use Rattle.std.specs.Option.{ForSome}
use Rattle.std.proofs.Props.{props}
use Rattle.lex_semantics.specs.Spec as S
use Rattle.lex_semantics.specs.Machine.{Machine}
use Rattle.lex_machine.specs.Views.{cut_of}
use Rattle.lex_machine.specs.declared.glance.BegunMore.{BegunMore}

-- The first of these rules keeps this of a match, sets this condition, does yymore then, and no more.
abbrev pub FirstIsBegun : Machine → List ℕ → BegunMore → Type 0
FirstIsBegun M [] begun = ⊥
FirstIsBegun M (rule ∷ others) begun =
    (M.cut rule ≡ cut_of begun.cut) × (M.statements rule ≡ S.Begin begun.condition ∷ S.More ∷ [])

-- each state of which that is told, of the rules that it accepts
abbrev pub TellBegun : Machine → List (Option BegunMore) → Type 0
TellBegun M all = (s : ℕ) → ForSome (get_or all s None) (λ begun. FirstIsBegun M (M.accepts s) begun)

-- There is one proof at most of what is told, so a type may keep it.
FirstIsBegun-prop : (M : Machine) (rules : List ℕ) (begun : BegunMore) → IsProp (FirstIsBegun M rules begun)
FirstIsBegun-prop M [] begun = Prim.hlevel props
FirstIsBegun-prop M (rule ∷ others) begun = Prim.hlevel props

pub TellBegun-prop : (M : Machine) (all : List (Option BegunMore)) → IsProp (TellBegun M all)
TellBegun-prop M all x y = λ k. λ s begun is. FirstIsBegun-prop M (M.accepts s) begun (x s begun is) (y s begun is) k
