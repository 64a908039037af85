pub mod Copies
pub mod Counts
pub mod Filling
pub mod Keepings
pub mod Sames
