-- Refusals that are not of a `|` without its rule.
use Rattle.std.proofs.Common.{◌≡◌, ◌≢◌, Result, Ok, Err, sym, subst, ◌∙◌}
use Rattle.std.specs.Prelude.{IfErr}
use Rattle.lexre_bytes.specs.declared.refusals.SpecErrorKind.{SpecErrorKind}
use Rattle.lexre_bytes.specs.declared.refusals.SpecErrorKind.TheVariants.{DanglingBar, Unclosed, OutOfMemory, BadEofAction, DuplicateEof, TooManyRules}
use Rattle.lexspec.specs.SubjectFaults.{IsSubjectFault}
use Rattle.lexspec_actions.specs.ActionFaults.{IsActionFault}

-- a fault of a condition list and a pattern is none, and no fault of an action is
pub subject_no_bar : (e : SpecErrorKind) → IsSubjectFault e → e ≢ DanglingBar
subject_no_bar e fault is = let none : ⊥ = subst IsSubjectFault is fault in none

pub action_no_bar : (e : SpecErrorKind) → IsActionFault e → e ≢ DanglingBar
action_no_bar e fault is = let none : ⊥ = subst IsActionFault is fault in none

pub unclosed_no_bar : (e : SpecErrorKind) → e ≡ Unclosed → e ≢ DanglingBar
unclosed_no_bar e unclosed is = no (sym unclosed ∙ is)
  where
    no : Unclosed ≡ DanglingBar → ⊥
    no p = cc

pub memory_no_bar : OutOfMemory ≢ DanglingBar
memory_no_bar e = cc

pub end_action_no_bar : BadEofAction ≢ DanglingBar
end_action_no_bar e = cc

pub second_end_no_bar : DuplicateEof ≢ DanglingBar
second_end_no_bar e = cc

pub many_rules_no_bar : TooManyRules ≢ DanglingBar
many_rules_no_bar e = cc

-- what is answered is none
pub open_no_bar : {A : Type 0} (r : Result A SpecErrorKind) → IfErr r (λ e. e ≡ Unclosed) → IfErr r (λ e. e ≢ DanglingBar)
open_no_bar (Ok v) h = tt
open_no_bar (Err e) h = unclosed_no_bar e h

pub no_bar_at_all : {A : Type 0} (r : Result A SpecErrorKind) (Waits : Type 0) → IfErr r (λ e. e ≢ DanglingBar) → IfErr r (λ e. e ≡ DanglingBar → Waits)
no_bar_at_all (Ok v) Waits h = tt
no_bar_at_all (Err e) Waits h = λ is. absurd (h is)
