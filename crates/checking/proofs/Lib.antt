pub mod Laws
pub mod Memories
