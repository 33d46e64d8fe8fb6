-- The faults of texts in quotes and of classes are faults of cutting.
use Rattle.std.proofs.Common.{◌≡◌, sym, subst}
use Rattle.lexre_bytes.specs.declared.error.PatternErrorKind.{PatternErrorKind}
use Rattle.lexre_bytes.specs.declared.error.PatternErrorKind.TheVariants.{UnclosedQuote, UnclosedClass, BadEscape, MisplacedSlash}
use Rattle.lexre_bytes.specs.Faults.{IsByteFault}
use Rattle.lexre.specs.Cutting.{IsQuoteFault, IsCuttingFault}

pub quote_fault_of_cutting : (kind : PatternErrorKind) → IsQuoteFault kind → IsCuttingFault kind
quote_fault_of_cutting UnclosedQuote h = tt
quote_fault_of_cutting BadEscape h = tt
quote_fault_of_cutting _ h = absurd h

pub byte_fault_of_cutting : (kind : PatternErrorKind) → IsByteFault kind → IsCuttingFault kind
byte_fault_of_cutting UnclosedClass h = tt
byte_fault_of_cutting BadEscape h = tt
byte_fault_of_cutting _ h = absurd h

pub slash_fault_of_cutting : (kind : PatternErrorKind) → kind ≡ MisplacedSlash → IsCuttingFault kind
slash_fault_of_cutting kind e = subst IsCuttingFault (sym e) tt
