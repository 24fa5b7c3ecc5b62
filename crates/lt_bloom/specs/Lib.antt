pub mod Hash
pub mod Divisor
pub mod Filter
