pub mod Operated
pub mod Leaves
pub mod Laws
