pub mod Parts
pub mod Stories
pub mod Causes
pub mod Adds
pub mod Published
pub mod Lending
pub mod Laws
pub mod Inserts
