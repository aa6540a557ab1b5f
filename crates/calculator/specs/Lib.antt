pub mod Search
pub mod Demand3
pub mod FoundName
pub mod Remarks
