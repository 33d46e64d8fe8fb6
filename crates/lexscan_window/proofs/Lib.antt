pub mod Keeping
pub mod Saying
pub mod Walking
pub mod Showing
pub mod Marks
pub mod MarkExampled
