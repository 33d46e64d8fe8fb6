pub mod Views
pub mod Literals
pub mod Glances
pub mod GlanceExamples
pub mod Quiets
pub mod Singles
pub mod QuietExamples
pub mod SingleExamples
