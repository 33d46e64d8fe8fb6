use Rattle.std.proofs.Common.{refl}
use Rattle.std.specs.Fmt.{digits}
use Rattle.lexlook_calls.proofs.laws.examples_of_headers.Goals as goal

pub returns : goal.returns
unfolding digits
returns c = record { keyword = refl; by_line = refl; again = refl; firsts = refl; unlimited = λ options text e none. none }
