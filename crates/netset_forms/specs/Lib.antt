pub mod FormAnswers
pub mod FormOptions
pub mod FormSteps
pub mod Forms
pub mod Layouts
pub mod RulePairs
pub mod SetWords
pub mod FormWords
