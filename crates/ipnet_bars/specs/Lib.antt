-- The definitions that the contracts of this crate cite.
pub mod Shares
pub mod MarkTexts
pub mod Parts
pub mod Frames
pub mod Outsides
pub mod Summaries
pub mod Bars
pub mod Changes
pub mod ComparisonBars
pub mod ShortTexts
