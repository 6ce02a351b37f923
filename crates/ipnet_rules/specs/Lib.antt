-- The definitions that the contracts of this crate cite.
pub mod Verdicts
pub mod Rules
pub mod UnreachedRules
pub mod Cells
pub mod Decisions
pub mod KeptRules
pub mod KeptSteps
pub mod PrefixLists
pub mod RoutesOfLength
pub mod CompiledLists
pub mod CompiledListOf
