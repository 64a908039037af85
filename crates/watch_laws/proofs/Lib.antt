pub mod Views
pub mod Bridges
pub mod Rises
pub mod Covering
pub mod Played
pub mod All
