-- Lemmas of this crate.
pub mod Fronts
pub mod TenantLaws
