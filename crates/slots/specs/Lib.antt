pub mod Own
pub mod Checks
