pub mod Numbers
pub mod Trees
pub mod Pairs
pub mod Bad
pub mod Laws
