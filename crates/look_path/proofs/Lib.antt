pub mod Dots
pub mod Laws
