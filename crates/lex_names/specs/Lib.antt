pub mod RuleNames
pub mod RuleNameExamples
