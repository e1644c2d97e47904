pub mod Trees
pub mod Held
