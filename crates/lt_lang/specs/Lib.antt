pub mod Lines
pub mod Numbers
pub mod Reading
pub mod Tokens
pub mod Literals
pub mod Sentences
pub mod Parsing
