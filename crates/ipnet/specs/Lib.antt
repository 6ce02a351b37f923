-- The definitions that the contracts of this crate use. It reexports the definitions of the base crate, so that a user
-- needs only this crate.
pub mod NetworkOf
pub mod NetworkParts
pub mod NetLaws
pub mod Numerals
pub mod AddressTexts
pub mod NetworkTexts
pub mod CanonicalTexts
pub mod Lines
pub mod Bytes
pub mod JsonTexts
pub mod ReaderSteps
pub mod ReaderState
pub mod SubnetsLeft
pub use Rattle.ipnet_base.specs.Address
pub use Rattle.ipnet_base.specs.Network
pub use Rattle.ipnet_base.specs.Blocks
pub use Rattle.ipnet_base.specs.Subnets
pub use Rattle.ipnet_base.specs.Masks
pub use Rattle.ipnet_base.specs.Ranges
pub use Rattle.ipnet_base.specs.RangeOf
pub use Rattle.ipnet_base.specs.Arithmetic
pub use Rattle.ipnet_base.specs.Values
pub use Rattle.ipnet_base.specs.Results
