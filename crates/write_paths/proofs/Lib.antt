pub mod Resolved
pub mod Meaning
pub mod Fewer
pub mod Words
