-- Rows of marked targets, and what is known of each state's first rule. (This project's.)
use Rattle.std.specs.Prelude.{ℕ, ◌+◌, ◌*◌, ◌^◌, Bool, true, false, cond, List, [], ◌∷◌}
use Rattle.lex_semantics.specs.Spec as S
use Rattle.lex_semantics.specs.Machine.{Machine}
use Rattle.lex_machine.specs.Glances.{are_simple}
use Rattle.lex_semantics.specs.Text.{flag}
use Rattle.lextab_packed.specs.Machines.{table_machine}
use Rattle.lextab_packed.specs.Steps.{step_of}
use Rattle.lextab_packed.specs.Views.{table_of}
use Rattle.lextab_packed.specs.declared.kinds.Kind.{Kind}
use Rattle.lextab_packed.specs.declared.tables.Tables.{Tables}
use Rattle.lextab_packed.specs.declared.kinds.Kind.TheVariants.{Any, NoRule, Silent, Echo, Print, Begin, Several}

-- what a rule does, where it keeps all of a match and does this
abbrev pub kind_doing : ℕ → List S.Statement → Kind
kind_doing rule [] = Silent
kind_doing rule (S.Echo ∷ []) = Echo
kind_doing rule (S.Print bytes ∷ []) = Print rule
kind_doing rule (S.Begin c ∷ []) = Begin c
kind_doing rule ss = cond (are_simple ss) (Several rule) Any

abbrev pub kind_keeping : ℕ → S.Cut → List S.Statement → Kind
kind_keeping rule S.Whole ss = kind_doing rule ss
kind_keeping rule cut ss = Any

abbrev pub kind_first : Machine → List ℕ → Kind
kind_first M [] = NoRule
kind_first M (rule ∷ others) = kind_keeping rule (M.cut rule) (M.statements rule)

-- what the first rule does that a state accepts
abbrev pub kind_of : Machine → ℕ → Kind
kind_of M s = kind_first M (M.accepts s)

-- the mark of a state at which the machine stops
abbrev pub stop_of : Kind → ℕ
stop_of NoRule = 2 ^ 31
stop_of Silent = 2 ^ 31 + 2 ^ 20
stop_of Echo = 2 ^ 31 + 2 * 2 ^ 20
stop_of other = 2 ^ 31 + 3 * 2 ^ 20

-- A target is the place of its row where the machine goes on from it, and else its number, with a mark.
abbrev pub as_target : Bool → Kind → ℕ → ℕ
as_target true kind s = 256 * s
as_target false kind s = stop_of kind + s

-- the marked target of a state by a byte
abbrev pub marked_target : Tables → ℕ → ℕ → ℕ
marked_target t s b =
    let next =
    step_of (table_of t.parts) s b in as_target (flag t.goes_on.items next) (kind_of (table_machine t) next) next
