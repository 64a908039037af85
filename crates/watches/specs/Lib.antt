pub mod Words
pub mod Sound
pub mod Ends
pub mod Moving
pub mod Marking
pub mod Reading
pub mod Order
