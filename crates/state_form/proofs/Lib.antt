pub mod Decide
pub mod Facts
pub mod Kept
