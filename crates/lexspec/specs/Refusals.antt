-- The reasons of refusals, given on.
pub use Rattle.lexre_bytes.specs.declared.error.PatternError
pub use Rattle.lexre_bytes.specs.declared.error.PatternErrorKind
pub use Rattle.lexre_bytes.specs.declared.refusals.SpecError
pub use Rattle.lexre_bytes.specs.declared.refusals.SpecErrorKind
pub use Rattle.lexre_bytes.specs.RefusalNames.{pattern_name, kind_name}
