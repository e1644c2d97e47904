pub mod Rewriting
pub mod Theorems
