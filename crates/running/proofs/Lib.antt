pub mod Laws
pub mod Cleared
