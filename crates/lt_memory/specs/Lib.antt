pub mod Tablets
pub mod Inserting
pub mod Walking
pub mod Going
pub mod Sharing
pub mod Waiting
