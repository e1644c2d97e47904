pub mod Lengths
pub mod Back
pub mod Loads
