-- Lemmas of this crate.
pub mod AnswerLaws
pub mod TextLengths
pub mod PieceLaws
pub mod TextCuts
pub mod ReadingLaws
pub mod ReportLaws
