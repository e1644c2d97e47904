pub mod Kinds
pub mod Decides
