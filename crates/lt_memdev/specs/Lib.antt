pub mod Chosen
pub mod Fails
pub mod Files
pub mod History
pub mod Stored
pub mod Written
