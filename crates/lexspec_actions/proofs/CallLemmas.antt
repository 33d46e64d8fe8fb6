-- Statements, by their parts.
use Rattle.std.proofs.Common.{codes, sym, option_map, ◌≡◌, ℕ, List, Option, Some, None, refl, ap, ◌∙◌}
use Rattle.lexspec_actions.specs.Bytes.{expect}
use Rattle.lexre_bytes.specs.Lexical.{name_at}
use Rattle.lex_semantics.specs.Spec.{Begin, Push}
use Rattle.lexspec_actions.specs.Names.{Scope}
use Rattle.lexspec_actions.specs.ActionSteps.{Said, does, begin_at, begin_from, begins, push_at, push_from, pushes, closed_condition, condition_at, after_word, after_statement, statement_at}
use Rattle.lexspec_actions.specs.Calls.{with_rest}
use Rattle.lexspec_actions.specs.Outcome.{UnlessMemory}
use Rattle.lexre_bytes.proofs.MemoryLaws.{unless_memory}
use Rattle.lexre_bytes.specs.declared.refusals.SpecErrorKind.{SpecErrorKind}

module _ (condition : List ℕ → Option ℕ) where
  mapped : (number : Option ℕ) (rest : List ℕ) → begins condition (option_map (with_rest rest) number) ≡ option_map (with_rest rest) (option_map (λ n. does (Begin n)) number)
  mapped None rest = refl
  mapped (Some n) rest = refl

  pub begin_closed : (t inside rest : List ℕ) (number : Option ℕ) (said : Option Said) → expect (codes "(") t ≡ Some inside → closed_condition condition inside ≡ option_map (with_rest rest) number
      → said ≡ option_map (λ n. does (Begin n)) number → begin_at condition t ≡ option_map (with_rest rest) said
  unfolding begin_at
  begin_closed t inside rest number said first here is =
      ap (begin_from condition t) first ∙ ap (begins condition) here ∙ mapped number rest ∙ ap (option_map (with_rest rest)) (sym is)

  pub begin_bare : (t rest : List ℕ) (number : Option ℕ) (said : Option Said) → expect (codes "(") t ≡ None → condition_at condition t ≡ option_map (with_rest rest) number
      → said ≡ option_map (λ n. does (Begin n)) number → begin_at condition t ≡ option_map (with_rest rest) said
  unfolding begin_at
  begin_bare t rest number said none here is =
      ap (begin_from condition t) none ∙ ap (begins condition) here ∙ mapped number rest ∙ ap (option_map (with_rest rest)) (sym is)

  pushed : (number : Option ℕ) (rest : List ℕ) → pushes condition (option_map (with_rest rest) number) ≡ option_map (with_rest rest) (option_map (λ n. does (Push n)) number)
  pushed None rest = refl
  pushed (Some n) rest = refl

  pub push_closed : (t inside rest : List ℕ) (number : Option ℕ) (said : Option Said) → expect (codes "(") t ≡ Some inside → closed_condition condition inside ≡ option_map (with_rest rest) number
      → said ≡ option_map (λ n. does (Push n)) number → push_at condition t ≡ option_map (with_rest rest) said
  unfolding push_at
  push_closed t inside rest number said first here is =
      ap (push_from condition) first ∙ ap (pushes condition) here ∙ pushed number rest ∙ ap (option_map (with_rest rest)) (sym is)

module _ (known : Scope) where
  none_of : (t word rest : List ℕ) → ◌≡◌ {A = Option (List ℕ × List ℕ)} (name_at t) (Some (word, rest)) → after_word known word rest ≡ None → statement_at known t ≡ None
  unfolding statement_at
  none_of t word rest name h = rw (name, h) refl

  pub statement_refused : (kind : SpecErrorKind) (t word rest : List ℕ) → ◌≡◌ {A = Option (List ℕ × List ℕ)} (name_at t) (Some (word, rest)) → UnlessMemory kind (after_word known word rest ≡ None)
      → UnlessMemory kind (statement_at known t ≡ None)
  statement_refused kind t word rest name h = unless_memory kind _ _ (none_of t word rest name) h

  said_open : (t word rest after : List ℕ) (s : Said) → ◌≡◌ {A = Option (List ℕ × List ℕ)} (name_at t) (Some (word, rest)) → ◌≡◌ {A = Option (Said × List ℕ)} (after_word known word rest) (Some (s, after))
      → after_statement after ≡ None → statement_at known t ≡ None
  unfolding statement_at
  said_open t word rest after s name said h = rw (name, said, h) refl

  pub statement_open : (t word rest after : List ℕ) (s : Option Said) → ◌≡◌ {A = Option (List ℕ × List ℕ)} (name_at t) (Some (word, rest)) → after_word known word rest ≡ option_map (with_rest after) s
      → after_statement after ≡ None → statement_at known t ≡ None
  statement_open t word rest after None name said h = none_of t word rest name said
  statement_open t word rest after (Some s) name said h = said_open t word rest after s name said h
