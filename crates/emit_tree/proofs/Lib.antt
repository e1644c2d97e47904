pub mod Places
pub mod Bases
pub mod Lists
pub mod Nesting
pub mod Operations
pub mod Whole
