pub mod Steps
pub mod Readings
pub mod Centrals
pub mod Widening
