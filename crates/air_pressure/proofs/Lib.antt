pub mod Fit
pub mod Distances
pub mod Judged
pub mod Sound
pub mod PressureAt
