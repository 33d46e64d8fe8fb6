-- What a refusal means.
pub use Rattle.lexre_bytes.specs.Memory.{UnlessMemory}
