pub mod Meaning
pub mod Around
pub mod Laws
