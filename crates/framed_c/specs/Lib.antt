pub mod Load
pub mod Run
pub mod Collect
pub mod Look
pub mod Write
pub mod Makers
