pub mod Answers
pub mod Laws
pub mod KindNumbers
pub mod Unique
