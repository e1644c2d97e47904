pub mod Ways
pub mod Follows
pub mod Means
pub mod Laws
