pub mod Anchored
pub mod Begun
pub mod Causes
pub mod Moments
pub mod Swept
