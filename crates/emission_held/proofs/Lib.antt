pub mod Lists
pub mod Decoded
pub mod Decodes
