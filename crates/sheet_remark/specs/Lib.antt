pub mod Remark
pub mod Read
