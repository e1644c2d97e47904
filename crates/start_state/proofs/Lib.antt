pub mod Blank
pub mod Texts
pub mod Laws
