pub mod Empty
mod Kept
pub mod Orders
pub mod Pictures
mod Removal
mod Spared
mod Swap
