pub mod Counts
pub mod Input
