pub mod Collect
pub mod Collected
