pub mod References
pub mod Runs
pub mod Admitting
pub mod Answering
pub mod Keeping
pub mod Reordering
pub mod Promised
