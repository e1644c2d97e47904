pub mod Table
pub mod Positions
