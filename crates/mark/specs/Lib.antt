pub mod Mark
pub mod Asks
pub mod Reached
