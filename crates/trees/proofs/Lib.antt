pub mod Levels
pub mod Held
