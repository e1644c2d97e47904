pub mod Numbered
pub mod Loop
pub mod Lists
