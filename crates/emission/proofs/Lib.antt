pub mod Counted
pub mod Sets
pub mod Framed
pub mod Rules
pub mod Links
pub mod Texts
pub mod Header
