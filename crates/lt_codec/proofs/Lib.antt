pub mod Bytes
pub mod Keys
pub mod Lengths
pub mod Steps
mod Round
mod Sole
mod Texts
mod Zeros
