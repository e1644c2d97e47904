-- The bounded machine over an abstract store, and its relation to the unbounded machine, in the order of reading.
pub mod Views
pub mod Fits
pub mod Store
pub mod Operations
pub mod Check
pub mod Bounded
pub mod Relation
pub mod UnboundedRuns
pub mod Theorems
