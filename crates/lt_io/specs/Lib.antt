pub mod Cause
pub mod Clock
pub mod Device
pub mod Directory
pub mod Memory
pub mod Steps
pub mod Texts
