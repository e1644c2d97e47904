pub mod Laws
pub mod Decides
