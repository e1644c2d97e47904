pub mod Positions
pub mod Classified
