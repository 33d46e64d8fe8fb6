use Rattle.std.proofs.Common.{◌≡◌, ◌∙◌, ℕ, zero, suc, List, Bool, [], ◌∷◌, length, map, refl, ap}
use Rattle.std.specs.Prelude.{slice_get}
use Rattle.std.proofs.lemmas.List.{length-map}
use Rattle.lex_semantics.specs.Spec.{Rule, has_reject, statements_at}
use Rattle.lex_semantics.specs.Text.{flag}
use Rattle.lexspec.specs.Views.{rules_in, spec_of}
use Rattle.lexlook_specs.proofs.words.actions.rejects_of.Goals as goal

abbrev flags : List Rule → List Bool
flags rs = map (λ (r : Rule). has_reject r.statements) rs

flags_at : (rs : List Rule) (i : ℕ) → flag (flags rs) i ≡ has_reject (statements_at (slice_get rs i))
flags_at [] i = refl
flags_at (r ∷ rs) zero = refl
flags_at (r ∷ rs) (suc i) = flags_at rs i

pub returns-clause-len : goal.returns-clause-len
returns-clause-len c =
    let is : c.in_ok-flags.flags.items ≡ flags (rules_in (spec_of c.args.spec.now)) = c.in_ok-flags.ensures ∙ ap flags c.rules.ensures.rules in
    ap length is ∙ length-map (rules_in (spec_of c.args.spec.now)) (λ (r : Rule). has_reject r.statements)

pub returns-clause-flags : goal.returns-clause-flags
returns-clause-flags c = λ i.
    let is : c.in_ok-flags.flags.items ≡ flags (rules_in (spec_of c.args.spec.now)) = c.in_ok-flags.ensures ∙ ap flags c.rules.ensures.rules in
    ap (λ l. flag l i) is ∙ flags_at (rules_in (spec_of c.args.spec.now)) i
