pub mod Laws
pub mod Values
pub mod Does
