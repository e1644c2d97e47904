pub mod Cache
pub mod Single
