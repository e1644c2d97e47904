pub mod Laws
pub mod Watching
