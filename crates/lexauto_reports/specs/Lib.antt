pub mod Joined
pub mod ReportLines
pub mod Warned
pub mod BackWords
pub mod Counting
pub mod Stretches
pub mod Searching
