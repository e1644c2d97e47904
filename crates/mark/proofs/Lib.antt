pub mod MarkLaws
pub mod ReachLaws
