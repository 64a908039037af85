pub mod Codes
pub mod Checks
pub mod Places
pub mod Rosters
