pub mod Lists
pub mod ByRole
pub mod Keeps
pub mod Steps
pub mod Seating
pub mod Allowed
pub mod Seats
pub mod Sums
