pub mod Cap
pub mod Laws
