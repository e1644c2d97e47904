pub mod Commit
pub mod Direct
pub mod Words
