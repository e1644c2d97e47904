pub mod Form
pub mod Keys
pub mod Tests
