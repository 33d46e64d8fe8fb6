-- What is refused after its statements were read is no action.
use Rattle.std.proofs.Common.{◌≡◌, ℕ, true, false, List, Some, None, sym, ap, ◌∙◌}
use Rattle.lex_semantics.specs.Spec.{EndAction, Statement}
use Rattle.lexspec_actions.specs.Names.{Scope}
use Rattle.lexspec_actions.specs.Actions.{SpellsStatements, SpellsAction, SpellsEndAction, are_few}
use Rattle.lexspec_actions.specs.ActionSteps.{end_of}
use Rattle.lexspec_actions.specs.ActionSteps.{may_stand}
use Rattle.lexspec_actions.specs.Outcome.{UnlessMemory}
use Rattle.lexre_bytes.specs.declared.refusals.SpecErrorKind.{SpecErrorKind}
use Rattle.lexre_bytes.proofs.MemoryLaws.{unless_memory, always}
use Rattle.lexspec_actions.proofs.ActionLemmas.{SpellsNone}
use Rattle.lexspec_actions.proofs.EndLemmas.{end_is, end_told}
use Rattle.lexspec_actions.proofs.OneAction.{one_statements}

no_both : {A : Type 0} → true ≡ false → A
no_both e = absurd (no e)
  where
    no : true ≡ false → ⊥
    no p = cc

module _ (known : Scope) (text : List ℕ) where
  abbrev pub NoAction : Type 0
  NoAction = (ss : List Statement) → SpellsAction known text ss → ⊥

  abbrev pub NoEndAction : Type 0
  NoEndAction = (e : EndAction) → SpellsEndAction known text e → ⊥

  pub none_read : (kind : SpecErrorKind) → UnlessMemory kind (SpellsNone known text) → UnlessMemory kind NoAction
  none_read kind h = unless_memory kind (SpellsNone known text) NoAction (λ none ss spells. none ss spells.0) h

  pub none_checked : (kind : SpecErrorKind) (ss : List Statement) → SpellsStatements known text ss → may_stand ss ≡ false → UnlessMemory kind NoAction
  none_checked kind ss read bad =
      always kind NoAction (λ other spells. (let same : other ≡ ss = one_statements known text other ss spells.0 read in
      no_both (sym spells.1 ∙ ap may_stand same ∙ bad)))

  pub no_end_read : (kind : SpecErrorKind) → UnlessMemory kind (SpellsNone known text) → UnlessMemory kind NoEndAction
  no_end_read kind h = unless_memory kind (SpellsNone known text) NoEndAction (λ none e spells. none spells.0 spells.1) h

  pub end_read : (ss : List Statement) (e : EndAction) → SpellsStatements known text ss → are_few ss ≡ true → end_of ss ≡ Some e → SpellsEndAction known text e
  end_read ss e spells few is = (ss, spells, few, end_told spells.1 ss e spells.4 is)

  pub no_end_few : (ss : List Statement) → SpellsStatements known text ss → are_few ss ≡ false → NoEndAction
  no_end_few ss read bad e (other, spells, few, is) = let same : other ≡ ss = one_statements known text other ss spells read in no_both (sym few ∙ ap are_few same ∙ bad)

  pub no_end_action : (ss : List Statement) → SpellsStatements known text ss → end_of ss ≡ None → NoEndAction
  no_end_action ss read bad e (other, spells, few, is) = let same : other ≡ ss = one_statements known text other ss spells read in no_some (sym (end_is other e is) ∙ ap end_of same ∙ bad)
    where
      no_some : Some e ≡ None → ⊥
      no_some p = cc
