pub mod Accepted
pub mod Constant
