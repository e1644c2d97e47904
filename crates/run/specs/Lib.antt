-- In the order of reading.
pub mod Run
pub mod Loop
