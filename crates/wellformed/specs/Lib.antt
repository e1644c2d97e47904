pub mod WellFormed
pub mod Held
