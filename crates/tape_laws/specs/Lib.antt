pub mod Alike
pub mod Copying
pub mod Examples
pub mod Keeping
