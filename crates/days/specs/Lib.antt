pub mod Asking
pub mod Telling
pub mod Past
pub mod Due
pub mod Giving
pub mod Central
pub mod Reads
