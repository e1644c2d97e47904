pub mod Order
pub mod Symbols
pub mod Theorems
