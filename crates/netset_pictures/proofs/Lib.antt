-- Lemmas.
pub mod FrameLaws
