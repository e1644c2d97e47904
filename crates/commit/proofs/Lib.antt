pub mod Assignment
pub mod Headers
pub mod Laws
pub mod Ready
pub mod Exact
pub mod Meaning
pub mod Direct
