pub mod Ends
pub mod Making
pub mod Laws
pub mod Does
