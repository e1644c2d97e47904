pub mod Fits
pub mod Constants
pub mod Same
pub mod Alike
pub mod Start
