pub mod Back
pub mod Digits
pub mod Fronts
pub mod Means
pub mod Runs
pub mod Splices
pub mod Steps
