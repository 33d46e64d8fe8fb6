use Rattle.std.proofs.Common.{ℕ, Option, subst}
use Rattle.lexspec.specs.Fixed.{HasOne, TellsLength}
use Rattle.lexspec.proofs.FixedLaws.{none_of_none}
use Rattle.lexspec.proofs.fixed.repeated_length.Goals as goal

pub returns-in_err-one : goal.returns-in_err-one
returns-in_err-one c = λ t sound bounds tells.
    rw c.from_residual.ensures (none_of_none t sound c.args.least c.args.most bounds (subst (λ (o : Option ℕ). TellsLength (HasOne t) o) c.in_err-one.was tells))
