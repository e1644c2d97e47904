-- Heap words and text bytes as a store of the bounded machine, in the order of reading.
pub mod Store
pub mod Form
pub mod State
