-- The definitions that the contracts of this crate cite.
pub mod BarAnswers
pub mod Locales
pub mod MapAnswers
pub mod PlanBars
pub mod PictureWords
