pub mod Nearest
pub mod Offsets
