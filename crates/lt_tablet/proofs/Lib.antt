pub mod Load
pub mod Answering
pub mod SoFar
pub mod Places
pub mod Range
pub mod Cut
