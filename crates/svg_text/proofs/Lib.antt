-- Lemmas.
pub mod EscapeLaws
pub mod PieceLaws
pub mod ReadLaws
pub mod GrammarLaws
pub mod PrintLaws
