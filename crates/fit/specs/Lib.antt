pub mod Fit
pub mod Edge
pub mod Exact
