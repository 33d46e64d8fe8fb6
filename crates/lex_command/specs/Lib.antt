pub mod Flags
pub mod Args
pub mod CommandLine
pub mod CommandExamples
pub mod Refusal
pub mod LookLine
pub mod Forms
