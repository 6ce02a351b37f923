-- Lemmas that the proofs of this crate share.
pub mod CountLaws
pub mod SharedLaws
pub mod JoinLaws
pub mod CostLaws
pub mod ShareLaws
pub mod HalfLaws
pub mod PartLaws
pub mod SplitLaws
pub mod RoomLaws
pub mod AnswerLaws
pub mod PartOfLaws
pub mod OrderLaws
pub mod HalvingLaws
pub mod FamilyLaws
