pub mod Growing
pub mod Counting
mod Buffers
