pub mod Found
pub mod Means
pub mod Lacked
pub mod Laws
