pub mod Numbers
pub mod Shape
pub mod Accepted
pub mod Counted
