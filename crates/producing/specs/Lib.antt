pub mod Producing
