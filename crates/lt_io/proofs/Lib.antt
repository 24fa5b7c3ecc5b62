pub mod Chains
pub mod Moments
mod Pieces
