pub mod Run
pub mod Collect
pub mod Look
pub mod Write
