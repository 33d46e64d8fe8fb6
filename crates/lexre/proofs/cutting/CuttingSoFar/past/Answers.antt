use Rattle.std.proofs.Common.{refl}
use Rattle.lexre.proofs.CuttingLaws.{past_piece, past_opens, past_closes, past_dollar, past_other}
use Rattle.lexre.proofs.cutting.CuttingSoFar.past.Goals as goal

pub returns-in-Opens-clause-ending : goal.returns-in-Opens-clause-ending
returns-in-Opens-clause-ending c = λ ps. rw c.in-Opens.is (past_piece _ _ _ _ _ _ _ c.args.at ps (past_opens _ c.args.at ps) refl)

pub returns-in-Closes-clause-ending : goal.returns-in-Closes-clause-ending
returns-in-Closes-clause-ending c = λ ps. rw c.in-Closes.is (past_piece _ _ _ _ _ _ _ c.args.at ps (past_closes _ _ c.args.at ps c.saturating_sub.ensures) refl)

pub returns-in-Dollar-clause-ending : goal.returns-in-Dollar-clause-ending
returns-in-Dollar-clause-ending c = λ ps. rw c.in-Dollar.is (past_piece _ _ _ _ _ _ _ c.args.at ps (past_dollar _ c.args.at ps) refl)

pub returns-in-Other-clause-ending : goal.returns-in-Other-clause-ending
returns-in-Other-clause-ending c = λ ps. rw c.in-Other.is (past_piece _ _ _ _ _ _ _ c.args.at ps (past_other _ c.args.at ps) refl)
