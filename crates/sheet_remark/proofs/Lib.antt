pub mod Computed
pub mod Read
pub mod Remarks
