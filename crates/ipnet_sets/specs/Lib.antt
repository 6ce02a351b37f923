-- The definitions that the contracts of this crate use.
pub mod Boundaries
pub mod Members
pub mod Parts
pub mod SetRanges
pub mod Supernets
pub mod Gather
pub mod Pushed
pub mod ManySets
pub mod BoundaryRanges
pub mod RangesLeft
pub mod RangeBlocks
pub mod NetworksLeft
pub mod Images
pub mod CommonSupernets
