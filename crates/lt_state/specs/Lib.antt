pub mod State
pub mod Memory
pub mod Facts
pub mod Stands
pub mod Flushes
pub mod Laws
