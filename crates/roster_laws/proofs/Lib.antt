pub mod Steps
pub mod Firsts
pub mod Aparts
pub mod Forms
pub mod Orders
pub mod Applies
