pub mod Members
pub mod Tree
