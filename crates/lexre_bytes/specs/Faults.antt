-- Which faults the readers of classes answer. None of them takes memory.
use Rattle.std.specs.Prelude.{⊤}
use Rattle.lexre_bytes.specs.declared.error.PatternErrorKind.{PatternErrorKind}
use Rattle.lexre_bytes.specs.declared.error.PatternErrorKind.TheVariants.{UnclosedClass, BadRange, EmptyClass, UnknownClassName, UnsupportedBracket, BadEscape}
use Rattle.lexre_bytes.specs.declared.class_item.ClassItem.{ClassItem}

-- the class is not closed, or an escape in it is none
abbrev pub IsByteFault : PatternErrorKind → Type 0
IsByteFault UnclosedClass = ⊤
IsByteFault BadEscape = ⊤
IsByteFault _ = ⊥

-- an element may not stand in a class
abbrev pub IsPartFault : PatternErrorKind → Type 0
IsPartFault BadRange = ⊤
IsPartFault UnsupportedBracket = ⊤
IsPartFault _ = ⊥

-- a class has no set
abbrev pub IsClassFault : PatternErrorKind → Type 0
IsClassFault UnclosedClass = ⊤
IsClassFault BadRange = ⊤
IsClassFault EmptyClass = ⊤
IsClassFault UnknownClassName = ⊤
IsClassFault UnsupportedBracket = ⊤
IsClassFault BadEscape = ⊤
IsClassFault _ = ⊥

-- an element that may not stand in a class has a fault that says why
abbrev pub HasPartFault : ClassItem → Type 0
HasPartFault (ClassItem.Span low high) = ⊤
HasPartFault (ClassItem.Named letters) = ⊤
HasPartFault (ClassItem.Refused fault) = IsPartFault fault.kind
