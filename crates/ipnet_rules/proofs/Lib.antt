-- Lemmas that the proofs of this crate share.
pub mod VerdictLaws
pub mod FirstLaws
pub mod UnreachedLaws
pub mod RouteLaws
pub mod CellLaws
pub mod PaintingLaws
pub mod OwnerLaws
pub mod MatchLaws
pub mod CompiledLaws
pub mod DifferenceLaws
pub mod KeptLaws
