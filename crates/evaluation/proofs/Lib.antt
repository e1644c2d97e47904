pub mod Stores
pub mod Fits
pub mod Simple
pub mod Laws
