pub mod Reports
pub mod Runs
pub mod Collects
pub mod Calls
pub mod First
pub mod Second
