-- The faults of parts of classes are faults of classes.
use Rattle.lexre_bytes.specs.declared.error.PatternErrorKind.{PatternErrorKind}
use Rattle.lexre_bytes.specs.declared.error.PatternErrorKind.TheVariants.{UnclosedClass, BadRange, UnsupportedBracket, BadEscape}
use Rattle.lexre_bytes.specs.Faults.{IsByteFault, IsPartFault, IsClassFault}

pub byte_fault_of_class : (kind : PatternErrorKind) → IsByteFault kind → IsClassFault kind
byte_fault_of_class UnclosedClass h = tt
byte_fault_of_class BadEscape h = tt
byte_fault_of_class _ h = absurd h

pub part_fault_of_class : (kind : PatternErrorKind) → IsPartFault kind → IsClassFault kind
part_fault_of_class BadRange h = tt
part_fault_of_class UnsupportedBracket h = tt
part_fault_of_class _ h = absurd h
