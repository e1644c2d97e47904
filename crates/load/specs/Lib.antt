pub mod Load
pub mod Theorems
