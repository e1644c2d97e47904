pub mod Count
pub mod Sweep
pub mod Means
pub mod Kept
