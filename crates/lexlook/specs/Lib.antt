pub mod Failures
pub mod Progress
