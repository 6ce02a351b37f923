-- Lemmas of this crate.
pub mod OrderLaws
pub mod RankLaws
pub mod LastLaws
pub mod ValidityLaws
pub mod ThoseLaws
pub mod CoveringLaws
pub mod SortedLaws
pub mod WalkLaws
pub mod RecordLaws
