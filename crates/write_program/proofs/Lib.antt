pub mod Forms
pub mod Laws
pub mod Loops
pub mod Outside
