-- The definitions that the contracts of this crate use.
pub mod Origins
pub mod Groups
pub mod OriginsOf
pub mod OriginImages
