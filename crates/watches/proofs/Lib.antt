pub mod Keeps
pub mod Steps
pub mod Twice
pub mod Turns
