pub mod Marked
pub mod Fields
pub mod Held
pub mod Whole
pub mod BaseKind
