pub mod Months
pub mod Kinds
pub mod Sames
