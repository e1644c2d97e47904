pub mod Position
pub mod Words
pub mod Attempt
