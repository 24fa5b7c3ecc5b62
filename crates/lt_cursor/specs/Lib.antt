pub mod Order
pub mod Places
pub mod Strands
pub mod Merging
pub mod Boxed
pub mod Kinds
pub mod Refusals
pub mod Opening
