-- What follows a class, whatever its elements are.
use Rattle.std.specs.Prelude.{ℕ, Bool, List, Option, option_map}
use Rattle.lexre_bytes.specs.Elements.{Element}

abbrev pub rest_of_class : Option (Bool × List Element × List ℕ) → Option (List ℕ)
rest_of_class o = option_map (λ x. x.2) o
