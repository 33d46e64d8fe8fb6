use Rattle.std.proofs.Common.{[], sym, subst, ◌∷◌, arith, rules}
use Rattle.lex_semantics.specs.Machine.{Machine}
use Rattle.lexscan_window.specs.Walks.{Walked}
use Rattle.lexscan_window.proofs.Walking.{walked_none, walked_more}
use Rattle.lexscan_window.proofs.reading.walk_one.Goals as goal

pub returns-clause-walked : goal.returns-clause-walked
returns-clause-walked g c =
    let M : Machine = g.M.Machine.machine c.args.machine.now in
    rw (c.new.ensures) (subst (λ k. Walked M c.args.first (c.args.byte ∷ []) k c.args.first) (sym c.step-state.ensures.state)
    (walked_more M c.args.first [] c.args.first c.args.first c.args.byte (search rules) (walked_none M c.args.first) (λ some. absurd (omega (arith, some)))))
