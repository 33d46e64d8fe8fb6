use Rattle.std.proofs.Common.{ℕ, List, subst, sym}
use Rattle.lex_semantics.specs.Text.{Among}
use Rattle.lexlook_specs.specs.Placing.{Meets}
use Rattle.lexlook_specs.proofs.words.starting.meets.Goals as goal

pub returns-in-Takes-clause-yes : goal.returns-in-Takes-clause-yes
returns-in-Takes-clause-yes c = λ t. subst (Meets c.args.rejects.now c.args.rules.now) (sym c.in-Takes.is)
    (subst (λ (l : List ℕ). Among l c.in-Takes.rule) c.taken.ensures (c.has.ensures.yes t))

pub returns-in-Takes-clause-no : goal.returns-in-Takes-clause-no
returns-in-Takes-clause-no c = λ f m. c.has.ensures.no f
    (subst (λ (l : List ℕ). Among l c.in-Takes.rule) (sym c.taken.ensures) (subst (Meets c.args.rejects.now c.args.rules.now) c.in-Takes.is m))
