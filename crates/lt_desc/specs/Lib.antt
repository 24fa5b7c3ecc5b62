pub mod Shape
pub mod Lawful
pub mod Spelling
pub mod Reading
