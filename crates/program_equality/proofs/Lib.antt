pub mod Constants
pub mod Names
pub mod EntryKinds
pub mod Bases
pub mod Instructions
pub mod Loops
