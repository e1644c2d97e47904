pub mod Form
pub mod Tests
