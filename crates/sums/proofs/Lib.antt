pub mod Laws
pub mod Trees
pub mod Counted
