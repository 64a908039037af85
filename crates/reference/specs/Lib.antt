pub mod Codes
pub mod Priced
pub mod Sums
pub mod Windows
pub mod Edges
pub mod Finding
pub mod Meaning
