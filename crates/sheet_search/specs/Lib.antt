pub mod Find
pub mod Remarks
