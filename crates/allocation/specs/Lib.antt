pub mod Allocation
pub mod Known
