pub mod Encode
pub mod Updates
