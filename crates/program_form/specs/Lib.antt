pub mod WellFormed
pub mod Sound
