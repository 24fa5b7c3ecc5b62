pub mod Bytes
pub mod Record
pub mod Reading
pub mod Boxes
pub mod Periods
pub mod Records
pub mod Closure
