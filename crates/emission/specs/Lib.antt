pub mod Emit
pub mod Texts
pub mod Frame
pub mod Rules
pub mod Writes
