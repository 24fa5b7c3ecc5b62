pub mod Keys
pub mod Sought
pub mod Causes
pub mod Latest
pub mod Stems
pub mod Asked
pub mod Picked
pub mod Counting
