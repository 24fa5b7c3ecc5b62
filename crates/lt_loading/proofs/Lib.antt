pub mod Reading
pub mod Offsets
pub mod Finding
