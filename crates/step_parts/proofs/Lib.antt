pub mod Reserve
pub mod Ends
pub mod Line
pub mod Runs
pub mod Known
pub mod Laws
pub mod Room
pub mod Numbers
