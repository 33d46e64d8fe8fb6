pub mod CommandLine
pub mod CommandExamples
pub mod Asked
pub mod Subcommands
