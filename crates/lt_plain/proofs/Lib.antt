pub mod SameKey
pub mod Paging
pub mod Steps
