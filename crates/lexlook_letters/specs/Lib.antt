pub mod Encoding
pub mod Sequences
pub mod Cutting
pub mod Apart
pub mod Text
pub mod Refusals
pub mod TextExamples
pub mod EncodingExamples
