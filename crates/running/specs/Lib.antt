-- In the order of reading.
pub mod Running
pub mod Cleared
