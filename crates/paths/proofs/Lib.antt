pub mod Slots
pub mod Laws
pub mod Exits
