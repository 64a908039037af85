pub mod Codes
pub mod Format
pub mod Reading
pub mod Writing
pub mod Sound
