-- Lemmas of this crate.
pub mod BlockItems
pub mod CommandLaws
pub mod FormLaws
pub mod ItemLaws
pub mod PartLaws
pub mod PieceLaws
pub mod RangeItems
pub mod WriteLaws
pub mod OptionLaws
