pub mod Truth
pub mod Sound
pub mod Complete
