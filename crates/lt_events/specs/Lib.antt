pub mod Cores
pub mod Laws
pub mod Flushing
pub mod Committing
pub mod Purging
