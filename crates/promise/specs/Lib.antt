pub mod Parts
pub mod Same
pub mod Fit
pub mod Promise
pub mod EdgeCases
