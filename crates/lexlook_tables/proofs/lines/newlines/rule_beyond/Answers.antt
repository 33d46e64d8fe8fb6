use Rattle.std.proofs.Common.{ℕ, List, [], ◌∷◌, sym, subst}
use Rattle.lex_semantics.specs.Machine.{Machine}
use Rattle.lexlook_tables.specs.Reaching.{IsReached}
use Rattle.lexlook_tables.proofs.Firsts.{beyond}
use Rattle.lexlook_tables.proofs.lines.newlines.rule_beyond.Goals as goal

pub returns : goal.returns
returns g c = beyond M c.args.state n found (subst (IsReached M n (c.args.state ∷ [])) (sym c.deref.ensures.value) c.in_ok-found.ensures) c.rule_after_some.result c.rule_after_some.ensures
  where
    M : Machine
    M = g.M.Machine.machine c.args.machine.now

    n : ℕ
    n = g.M.Machine.states c.args.machine.now

    found : List ℕ
    found = c.deref.result.now
