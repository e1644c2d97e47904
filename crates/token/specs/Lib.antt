pub mod Reading
pub mod Beginning
