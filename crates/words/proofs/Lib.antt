pub mod Cuts
pub mod Numerals
pub mod PriceParts
pub mod Reading
pub mod RefusalParts
