-- Lemmas that the proofs of this crate share.
pub mod ShareLaws
pub mod MarkLaws
pub mod PartLaws
pub mod SummaryLaws
pub mod BarLaws
pub mod OutsideLaws
pub mod ChangeLaws
pub mod ComparisonLaws
pub mod FrameLaws
pub mod ShortLaws
