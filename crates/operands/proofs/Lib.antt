pub mod Lists
pub mod Literals
pub mod Laws
pub mod Numbers
