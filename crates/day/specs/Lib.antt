pub mod Codes
pub mod Form
pub mod Answering
