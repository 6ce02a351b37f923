-- The definitions that the contracts of this crate cite.
pub mod Shortest
pub mod ItemsOf
pub mod Plans
pub mod Solved
pub mod SolvedBlocks
pub mod FewestRoutes
pub mod Numbers
