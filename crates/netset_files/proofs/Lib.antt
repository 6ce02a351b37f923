-- Lemmas of this crate.
pub mod ReadLaws
