pub mod Words
pub mod Lists
pub mod Held
pub mod Closed
pub mod Count
