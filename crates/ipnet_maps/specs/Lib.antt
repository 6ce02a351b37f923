-- The definitions that the contracts of this crate cite.
pub mod Cuts
pub mod Squares
pub mod Cells
pub mod Shared
pub mod Places
pub mod Paths
pub mod Levels
pub mod LevelSteps
pub mod Classes
pub mod Drawings
pub mod Layers
pub mod Runs
pub mod Lists
