pub mod Elements
pub mod Records
pub mod Opens
pub mod Past
pub mod Laws
