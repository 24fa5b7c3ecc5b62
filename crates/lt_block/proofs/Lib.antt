pub mod Loop
pub mod Fields
pub mod Records
pub mod Blocks
pub mod Filling
pub mod Cuts
