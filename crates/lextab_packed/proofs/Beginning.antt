-- States whose first rule sets a start condition and does yymore.
use Rattle.std.proofs.Common.{◌≡◌, ℕ, ◌<◌, List, [], ◌∷◌, length, get_or, Option, Some, None, refl, sym}
use Rattle.std.specs.Prelude.{IfSome}
use Rattle.std.proofs.lemmas.List.{get_or_read}
use Rattle.lex_semantics.specs.Machine.{Machine}
use Rattle.lex_machine.specs.Glances.{FirstBegins}
use Rattle.lex_machine.specs.Views.{cut_of}
use Rattle.lex_machine.specs.declared.glance.BegunMore.{BegunMore}
use Rattle.lextab_packed.specs.Begun.{FirstIsBegun, TellBegun}

-- the first rule of those that a state accepts
first : (M : Machine) (s : ℕ) (begun : BegunMore) (rules : List ℕ) → M.accepts s ≡ rules → FirstIsBegun M rules begun → FirstBegins M s (cut_of begun.cut) begun.condition
first M s begun [] is told = absurd told
first M s begun (rule ∷ others) is told = record { rule = rule; others = others; accepts = is; cut_is = told.0; does = told.1 }

-- what is told of a state in the column
pub told_at : (M : Machine) (all : List (Option BegunMore)) (s : ℕ) (o : Option BegunMore) → TellBegun M all → o ≡ get_or all s o → s < length all → IfSome o (λ begun. FirstBegins M s (cut_of begun.cut) begun.condition)
told_at M all s None told is lt = tt
told_at M all s (Some begun) told is lt = first M s begun (M.accepts s) refl (told s begun (sym (get_or_read all s (Some begun) lt is None)))
