pub mod Literals
pub mod Texts
