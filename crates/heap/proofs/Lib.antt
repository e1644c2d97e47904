pub mod Lists
pub mod Laws
pub mod Loops
pub mod Held
