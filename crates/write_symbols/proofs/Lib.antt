pub mod Derive
pub mod Source
pub mod Keeps
pub mod Appearance
pub mod Back
pub mod Spelled
