pub mod Changing
pub mod Laws
pub mod Kinds
