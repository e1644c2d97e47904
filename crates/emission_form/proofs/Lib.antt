pub mod Cover
pub mod Slots
pub mod Facts
pub mod Parts
pub mod Whole
