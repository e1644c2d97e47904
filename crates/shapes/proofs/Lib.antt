pub mod Lists
pub mod Tokens
pub mod Names
pub mod Tree
pub mod Counted
pub mod Start
pub mod Accepted
