pub mod Lawful
pub mod Runs
pub mod FixedBack
pub mod IntegerBack
pub mod DecimalLength
pub mod ReadBack
pub mod WordsRead
