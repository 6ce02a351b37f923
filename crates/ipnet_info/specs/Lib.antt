-- The definitions that the contracts of this crate cite.
pub mod AllFacts
pub mod Digits
pub mod Facts
pub mod Hosts
pub mod Registries
pub mod RegistryRows
pub mod Zones
