pub mod Figures
pub mod Named
pub mod Exact
pub mod Faults
pub mod Worked
