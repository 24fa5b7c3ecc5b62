pub mod Rising
pub mod Pieces
pub mod Lead
pub mod Growth
