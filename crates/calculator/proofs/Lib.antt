pub mod Demand3
pub mod Located
pub mod Replies
pub mod Remarks
pub mod FoundName
pub mod Says
