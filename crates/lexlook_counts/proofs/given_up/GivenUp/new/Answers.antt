use Rattle.std.proofs.Common.{rules}
use Rattle.lexlook_counts.proofs.Giving.{counts_none}
use Rattle.lexlook_counts.proofs.given_up.GivenUp.new.Goals as goal

pub returns : goal.returns
returns c = counts_none c.args.rules _ (search rules)
