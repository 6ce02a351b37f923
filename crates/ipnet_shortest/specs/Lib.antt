-- The definitions that the contracts of this crate cite.
pub mod Covers
pub mod PartCovers
pub mod Plans
pub mod Halves
pub mod Parts
