mod Fronts
mod Numbers
mod Pieces
mod Joined
pub mod Reading
pub mod Stored
pub mod NumberOrder
