use Rattle.std.proofs.lemmas.Bool.Decides.{nat_tests}
use Rattle.std.proofs.Common.{arith}
use Rattle.lexlook_suites.specs.Orders.{byte_at}
use Rattle.lexlook_suites.proofs.orders.byte_at.Goals as goal

pub returns-then-rank-lt26 : goal.returns-then-rank-lt26
unfolding byte_at
returns-then-rank-lt26 c = grind (arith, nat_tests)

pub returns-then-rank-lt91 : goal.returns-then-rank-lt91
unfolding byte_at
returns-then-rank-lt91 c = grind (arith, nat_tests)

pub returns-then-rank-lt95 : goal.returns-then-rank-lt95
unfolding byte_at
returns-then-rank-lt95 c = grind (arith, nat_tests)

pub returns-then-rank-lt118 : goal.returns-then-rank-lt118
unfolding byte_at
returns-then-rank-lt118 c = grind (arith, nat_tests)

pub returns-then-rank-lt247 : goal.returns-then-rank-lt247
unfolding byte_at
returns-then-rank-lt247 c = grind (arith, nat_tests)

pub returns : goal.returns
unfolding byte_at
returns c = grind (arith, nat_tests)
