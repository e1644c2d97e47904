pub mod Decides
pub mod Keys
pub mod Laws
