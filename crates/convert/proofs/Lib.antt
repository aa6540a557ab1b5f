pub mod Computed
pub mod Next
pub mod Paired
pub mod Sheets
pub mod Texts
pub mod Laws
pub mod Exactly
pub mod Remarks
