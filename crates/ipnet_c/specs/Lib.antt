-- The definitions that the contracts of this crate use.
pub mod Statuses
pub mod Buffers
pub mod Replies
pub mod SetReplies
pub mod ListReplies
pub mod BadTexts
pub mod Version
pub mod TableReplies
pub mod Rows
pub mod RowReplies
pub mod TextRows
pub mod RouteReplies
pub mod ImageRows
pub mod OriginReplies
pub mod Pictures
pub mod PictureReplies
pub mod FactReplies
