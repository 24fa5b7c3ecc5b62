mod Division
pub mod Places
pub mod Filters
