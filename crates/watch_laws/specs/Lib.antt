pub mod Laws
pub mod Playing
pub mod Worked
