pub mod File
pub mod Seen
pub mod Reading
pub mod Views
pub mod Tags
pub mod Fitting
pub mod Refusals
pub mod FileExamples
