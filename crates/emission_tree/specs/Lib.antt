pub mod Standing
pub mod Entry
pub mod Whole
